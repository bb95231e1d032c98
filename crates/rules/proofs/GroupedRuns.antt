-- A problem whose list has groups comes to what the problem with the plain words of its list comes to.
use Prim.Native.Nat.{ℕ}
use native.Mathlib.Omega.{arith}
use mathlib.Core.Path.{◌≡◌, refl, sym, ◌∙◌}
use mathlib.Core.Bool.{Bool, true, false}
use mathlib.Core.List.{List}
use borrow.Author.Tests.{le-ltb}
use lib.Ieee.{Float}
use lib.ListN.{length}
use Rattle.rules.specs.Limits.{limit, most_words, most_deep}
use Rattle.rules.specs.Blocks.{is_bad_cone}
use Rattle.rules.specs.Groups.{plain_words, Says, Unreadable, has_group}
use Rattle.rules.specs.Problem.{Problem, with_words}
use Rattle.rules.specs.Refusals.{Accepted, too_large, invalid_op, bad_cone, not_finite, work_shortage, refusal, facts, read_problem, plain_problem, solved}
use Rattle.rules.specs.Split.{SplitProblem, joined_problem, plain_split, split_refusal, split_solved}
use Rattle.rules.proofs.Groups.{no_longer, plain_is_itself, read_exactly, no_bad_word_no_group}
use Rattle.rules.proofs.Unreadable.{unreadable_says_nothing}
use Rattle.rules.proofs.Accepted.{sizes_fit, cone_fits}
use Rattle.rules.proofs.Refusals.{none_holds, solved_is}
use Rattle.rules.proofs.SplitRuns.{slices_fit_if_accepted, same_refusal, split_runs_as_joined}

-- a list that can be read: its plain words say themselves
module _ (p : Problem) (plain : has_group (plain_words p.words) ≡ false) where
  read_again : read_problem (plain_problem p) ≡ read_problem p
  unfolding read_problem
  read_again = rw (plain_is_itself (plain_words p.words) plain)

  still_within : too_large p ≡ false → too_large (plain_problem p) ≡ false
  unfolding too_large
  still_within fine =
      let f = sizes_fit p fine in
      rw (le-ltb limit p.n f.n, le-ltb limit p.m f.m, le-ltb most_words (length (plain_words p.words)) (omega (arith, f.words, no_longer p.words)))

  same_facts : too_large p ≡ false → (work cone : ℕ) → facts (plain_problem p) work cone ≡ facts p work cone
  unfolding invalid_op bad_cone not_finite work_shortage
  same_facts fine work cone = rw (fine, still_within fine, plain_is_itself (plain_words p.words) plain)

  readable_runs_as_plain : too_large p ≡ false → (work cone : List Float) → solved p work cone ≡ solved (plain_problem p) work cone
  readable_runs_as_plain fine work cone =
      solved_is p work cone ∙ sym (solved_is (plain_problem p) work cone ∙ rw (same_facts fine (length work) (length cone), read_again))

pub runs_as_said : (p : Problem) (said : List ℕ) → Says most_deep p.words said → too_large p ≡ false → (work cone : List Float) → solved p work cone ≡ solved (with_words said p) work cone
runs_as_said p said s fine work cone =
    let f = (read_exactly p.words said).0 s in
    rw f.0 at (readable_runs_as_plain p (rw f.0 f.1) fine work cone)

-- a list that is no BadCone can be read
no_group_left : (p : Problem) → bad_cone p ≡ false → has_group (plain_words p.words) ≡ false
no_group_left p fine = no_bad_word_no_group (plain_words p.words) (cone_fits p fine).no_bad_word

pub bad_cone_as_said : (p : Problem) (said : List ℕ) → Says most_deep p.words said → bad_cone p ≡ is_bad_cone said p.m
unfolding bad_cone
bad_cone_as_said p said s = rw ((read_exactly p.words said).0 s).0

pub unreadable_is_bad_cone : (p : Problem) → Unreadable most_deep p.words → bad_cone p ≡ true
unreadable_is_bad_cone p u = go (bad_cone p) refl
  where
    go : (t : Bool) → bad_cone p ≡ t → bad_cone p ≡ true
    go true e = e
    go false e = absurd (unreadable_says_nothing most_deep p.words u (plain_words p.words) ((read_exactly p.words (plain_words p.words)).1 (refl, no_group_left p e)))

-- where a problem is accepted its list can be read
pub runs_as_its_plain_blocks : (p : Problem) (work cone : List Float) → refusal p (length work) (length cone) ≡ Accepted → solved p work cone ≡ solved (plain_problem p) work cone
runs_as_its_plain_blocks p work cone accepted =
    let none = none_holds p (length work) (length cone) accepted in
    readable_runs_as_plain p (no_group_left p (none 4)) (none 2) work cone

pub split_runs_as_its_plain_blocks : (p : SplitProblem) (work cone : List Float) → split_refusal p (length work) (length cone) ≡ Accepted → split_solved p work cone ≡ split_solved (plain_split p) work cone
split_runs_as_its_plain_blocks p work cone accepted =
    let fits = slices_fit_if_accepted p work cone accepted in
    split_runs_as_joined p work cone fits
    ∙ runs_as_its_plain_blocks (joined_problem p) work cone (sym (same_refusal p (length work) (length cone) fits) ∙ accepted)
    ∙ sym (split_runs_as_joined (plain_split p) work cone fits)
