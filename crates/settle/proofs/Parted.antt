-- Laws of vectors that are laid one after another at the front of a buffer.
use Prim.Native.Nat.{ℕ, ◌+◌}
use native.Mathlib.Omega.{arith}
use mathlib.Core.Path.{◌≡◌, refl, ◌∙◌}
use mathlib.Core.Bool.{true, false}
use mathlib.Core.List.{List, [], ◌++◌, append_assoc}
use lib.Ieee.{Float}
use lib.ListN.{length, take, drop, length-append}
use lib.Seq.{take_at, drop_at, drop-drop, take-add}
use Rattle.rules.specs.Helpers.{one, reciprocal}
use Rattle.rules.specs.Arithmetic.{◌*ᶠ◌, ◌/ᶠ◌, at, each}
use Rattle.rules.specs.Vectors.{scaled}
use Rattle.rules.specs.declared.Ending.{Ending}
use Rattle.rules.specs.Problem.{Problem}
use Rattle.rules.specs.Run.{finished_x, final_x, is_scaled}
use Rattle.rules.proofs.Slices.{each_on}
use Rattle.settle.specs.Parts.{copied_to}

-- the list is new up to place a
pub copied_next : (a : ℕ) (v new w : List Float) → length new ≡ a → copied_to a v (new ++ drop a w) ≡ new ++ v ++ drop (a + length v) w
unfolding copied_to
copied_next a v new w e =
    rw (take_at new (drop a w) a e, ← drop-drop (length v) a (new ++ drop a w), drop_at new (drop a w) a e, drop-drop (length v) a w)

-- w' is w with the list new written over its first a places
pub record Laid (new : List Float) (a : ℕ) (w w' : List Float) : Type 0 where
  pub is : w' ≡ new ++ drop a w
  pub to : length new ≡ a

pub laid_first : {v w w' : List Float} → w' ≡ copied_to 0 v w → Laid v (length v) w w'
laid_first {v} {w} {w'} e =
    let h : 0 + length v ≡ length v = omega arith in
    record { is = e ∙ rw h at (copied_next 0 v [] w refl); to = refl }

pub laid_more : {new w w' w'' : List Float} {a : ℕ} (v : List Float) → Laid new a w w' → w'' ≡ copied_to a v w' → Laid (new ++ v) (a + length v) w w''
laid_more {new} {w} {w'} {w''} {a} v l e =
    record { is = rw l.is at e ∙ copied_next a v new w l.to; to = length-append new v ∙ rw l.to }

-- x and y times 1/tau, or neither: the code multiplies both in one pass
pub finished_by : (m n : ℕ) (x ys : List Float) (by : Float) → by ≡ one /ᶠ at x (n + m + m) → ys ≡ each (λ k v. by *ᶠ v) (take (n + m) x) → ys ++ drop (n + m) x ≡ finished_x m n true x
unfolding finished_x reciprocal scaled
finished_by m n x ys by e is =
    let times = λ (k : ℕ) (v : Float). by *ᶠ v in
    let both : each times (take n x) ++ each times (take m (drop n x)) ≡ ys = each_on times times times (take n x) (take m (drop n x)) (λ i v h. refl) (λ j v h. refl) ∙ rw (is, take-add n m x) in
    rw (← both, ← e, append_assoc)

pub finished_not : (m n : ℕ) (x : List Float) → x ≡ finished_x m n false x
unfolding finished_x
finished_not m n x = refl

-- the rule's last vector is the code's
pub final_finished : (p : Problem) (e : Ending) (x : List Float) → final_x p e x ≡ finished_x p.m p.n (is_scaled e) x
unfolding final_x
final_finished p e x = refl
