-- Laws of a list that grows in a buffer.
use Prim.Native.Nat.{ℕ, ◌+◌, ◌-◌, ◌≤◌, ◌<◌}
use native.Mathlib.Numerals.{add-one}
use native.Mathlib.Omega.{arith}
use mathlib.Core.Path.{◌≡◌, refl, sym, ap, ◌∙◌}
use mathlib.Core.List.{List, [], ◌∷◌, ◌++◌, append_assoc, append-nil}
use lib.ListN.{length, take, drop, set, take-append-drop}
use lib.Seq.{take-suc-set, drop-drop, drop-set-lt}
use Rattle.rules.specs.Growing.{Grown}

-- ---- the places after a part are kept

further : (r s : ℕ) (t u : List ℕ) → r ≤ s → drop r t ≡ drop r u → drop s t ≡ drop s u
further r s t u h e =
    let there : r + (s - r) ≡ s = omega arith in
    sym (ap (λ (k : ℕ). drop k t) there)
    ∙ sym (drop-drop (s - r) r t)
    ∙ ap (drop (s - r)) e
    ∙ drop-drop (s - r) r u
    ∙ ap (λ (k : ℕ). drop k u) there

pub kept_on : (r s : ℕ) (t₀ t₁ t₂ : List ℕ) → r ≤ s → drop r t₁ ≡ drop r t₀ → drop s t₂ ≡ drop s t₁ → drop s t₂ ≡ drop s t₀
kept_on r s t₀ t₁ t₂ h e f = f ∙ further r s t₁ t₀ h e

-- a part after a part
pub grown_on : (at r s : ℕ) (t₀ t₁ t₂ first second : List ℕ) → r ≤ s → Grown at t₀ first r t₁ → Grown r t₁ second s t₂ → Grown at t₀ (first ++ second) s t₂
grown_on at r s t₀ t₁ t₂ first second h f g =
    record { text = g.text ∙ rw f.text (append_assoc (take at t₀) first second); kept = kept_on r s t₀ t₁ t₂ h f.kept g.kept }

-- no part, and a part of one
pub grown_none : (at : ℕ) (t : List ℕ) → Grown at t [] at t
grown_none at t = record { text = sym (append-nil (take at t)); kept = refl }

pub grown_one : (at v : ℕ) (t : List ℕ) → at < length t → Grown at t (v ∷ []) (at + 1) (set t at v)
grown_one at v t h =
    record { text = rw (add-one at) (take-suc-set t at v h); kept = drop-set-lt (at + 1) t at v (omega arith) }

-- a part at the front
pub grown_front : (count : ℕ) (before part after : List ℕ) → Grown 0 before part count after → after ≡ part ++ drop count before
grown_front count before part after g = sym (take-append-drop count after) ∙ rw (g.text, g.kept)
