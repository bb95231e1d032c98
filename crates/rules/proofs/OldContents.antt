-- What the buffers held before changes neither the answer nor the required parts, and places beyond those stay.
use Prim.Native.Nat.{ℕ, ◌+◌, ◌≤◌}
use native.Mathlib.Omega.{arith}
use mathlib.Core.Path.{◌≡◌, refl, sym, ◌∙◌}
use mathlib.Core.Bool.{Bool, true, false, cond}
use mathlib.Core.List.{List, ◌++◌}
use lib.Ieee.{Float}
use lib.ListN.{length, take, drop, length-append, length-drop, length-replicate}
use lib.Seq.{take_at, drop_at}
use Rattle.rules.specs.declared.Ending.{Ending}
use Rattle.rules.specs.Helpers.{reciprocal}
use Rattle.rules.specs.Arithmetic.{+0}
use Rattle.rules.specs.Vectors.{scaled}
use Rattle.rules.specs.Product.{cone_work}
use Rattle.rules.specs.Problem.{Problem, embed, blocks, length_x, work_length}
use Rattle.rules.specs.Step.{State, x_x, x_y}
use Rattle.rules.specs.Criteria.{tau_of}
use Rattle.rules.specs.Prepare.{zeros}
use Rattle.rules.specs.Run.{Ended, is_scaled, is_cone_failure, final_x, laid_out, run, left_by}
use Rattle.rules.specs.Refusals.{Refusal, Accepted, Refused, refusal, read_problem, left_turned_away, solved}
use Rattle.rules.specs.Demands.{work_needed, cone_needed, OldContentsChangeNothing, PlacesBeyondKept, KeptBeyond}
use Rattle.rules.proofs.KernelLengths.{scaled-length}
use Rattle.rules.proofs.Lengths.{Sized, x_x-length, x_y-length, run-sized}
use Rattle.rules.proofs.Accepted.{accepted_as_read}

-- ---- the required parts have the required lengths

pub final_x-length : (p : Problem) (e : Ending) (x : List Float) → length x ≡ length_x p.m p.n → length (final_x p e x) ≡ length_x p.m p.n
unfolding final_x
final_x-length p e x h = go (is_scaled e)
  where
    by : Float
    by = reciprocal (tau_of (embed p) x)

    go : (t : Bool) → length (cond t (scaled by (x_x (embed p) x) ++ scaled by (x_y (embed p) x) ++ drop (p.n + p.m) x) x) ≡ length_x p.m p.n
    go true =
        length-append (scaled by (x_x (embed p) x) ++ scaled by (x_y (embed p) x)) (drop (p.n + p.m) x)
        ∙ omega (arith, length-append (scaled by (x_x (embed p) x)) (scaled by (x_y (embed p) x)), scaled-length by (x_x (embed p) x), scaled-length by (x_y (embed p) x), x_x-length (embed p) x h, x_y-length (embed p) x h, length-drop (p.n + p.m) x)
    go false = h

pub laid_out-length : (p : Problem) (e : Ending) (s : State) → Sized p s → length (laid_out p e s) ≡ work_length p.m p.n
laid_out-length p e s h = simp length-append (omega (arith, final_x-length p e s.x h.x))

-- what a run leaves in the required part of work, and of cone work
abbrev pub required_work : Problem → Ended → List Float
required_work p e = cond (is_cone_failure e.ending) (zeros (work_length p.m p.n)) (laid_out p e.ending e.state)

abbrev pub required_cone : Problem → Ended → List Float
required_cone p e = cond (is_cone_failure e.ending) (zeros (cone_work (blocks p))) e.state.cone

pub required_work_length : (p : Problem) (e : Ended) → Sized p e.state → length (required_work p e) ≡ work_length p.m p.n
required_work_length p e h = go (is_cone_failure e.ending)
  where
    go : (t : Bool) → length (cond t (zeros (work_length p.m p.n)) (laid_out p e.ending e.state)) ≡ work_length p.m p.n
    go true = length-replicate (work_length p.m p.n) +0
    go false = laid_out-length p e.ending e.state h

pub required_cone_length : (p : Problem) (e : Ended) → Sized p e.state → length (required_cone p e) ≡ cone_work (blocks p)
required_cone_length p e h = go (is_cone_failure e.ending)
  where
    go : (t : Bool) → length (cond t (zeros (cone_work (blocks p))) e.state.cone) ≡ cone_work (blocks p)
    go true = length-replicate (cone_work (blocks p)) +0
    go false = h.cone

-- ---- what an accepted run leaves

left_work : (p : Problem) (work cone : List Float) (e : Ended) → Sized p e.state → take (work_length p.m p.n) (left_by p work cone e).work ≡ required_work p e
unfolding left_by
left_work p work cone e h =
    take_at (required_work p e) (drop (work_length p.m p.n) work) (work_length p.m p.n) (required_work_length p e h)

left_cone : (p : Problem) (work cone : List Float) (e : Ended) → Sized p e.state → take (cone_work (blocks p)) (left_by p work cone e).cone ≡ required_cone p e
unfolding left_by
left_cone p work cone e h =
    take_at (required_cone p e) (drop (cone_work (blocks p)) cone) (cone_work (blocks p)) (required_cone_length p e h)

left_answer : (p : Problem) (work cone work' cone' : List Float) (e : Ended) → (left_by p work cone e).answer ≡ (left_by p work' cone' e).answer
unfolding left_by
left_answer p work cone work' cone' e = refl

pub solved_accepted : (p : Problem) (work cone : List Float) → refusal p (length work) (length cone) ≡ Accepted → solved p work cone ≡ left_by (read_problem p) work cone (run (read_problem p))
unfolding solved
solved_accepted p work cone e = rw e

pub old_contents_change_nothing : (p : Problem) (work cone work' cone' : List Float) → refusal p (length work) (length cone) ≡ Accepted → refusal p (length work') (length cone') ≡ Accepted → OldContentsChangeNothing p work cone work' cone'
old_contents_change_nothing p work cone work' cone' e e' =
    let q = read_problem p in
    let s : Sized q (run q).state = run-sized q (accepted_as_read p (length work) (length cone) e).fitting in
    let one = solved_accepted p work cone e in
    let other = solved_accepted p work' cone' e' in
    record {
      answer = rw (one, other) (left_answer q work cone work' cone' (run q));
      work_required = rw (one, other) (left_work q work cone (run q) s ∙ sym (left_work q work' cone' (run q) s));
      cone_required = rw (one, other) (left_cone q work cone (run q) s ∙ sym (left_cone q work' cone' (run q) s));
    }

-- ---- and the places beyond stay

beyond_length : (required : ℕ) (part buffer : List Float) → length part ≡ required → required ≤ length buffer → length (part ++ drop required buffer) ≡ length buffer
beyond_length required part buffer e h = simp (length-append, length-drop) (omega arith)

left_kept : (p : Problem) (work cone : List Float) (e : Ended) → Sized p e.state → work_length p.m p.n ≤ length work → cone_work (blocks p) ≤ length cone → KeptBeyond (work_length p.m p.n) (cone_work (blocks p)) work cone (left_by p work cone e)
unfolding left_by
left_kept p work cone e s hw hc =
    let required = work_length p.m p.n in
    let needed = cone_work (blocks p) in
    record {
      work_length_lem = beyond_length required (required_work p e) work (required_work_length p e s) hw;
      cone_length = beyond_length needed (required_cone p e) cone (required_cone_length p e s) hc;
      work_beyond = drop_at (required_work p e) (drop required work) required (required_work_length p e s);
      cone_beyond = drop_at (required_cone p e) (drop needed cone) needed (required_cone_length p e s);
    }

pub solved-refused : (p : Problem) (work cone : List Float) (x : Ending) → refusal p (length work) (length cone) ≡ Refused x → solved p work cone ≡ left_turned_away x work cone
unfolding solved
solved-refused p work cone x e = rw e

solved_kept : (p : Problem) (work cone : List Float) (r : Refusal) → refusal p (length work) (length cone) ≡ r → KeptBeyond (work_needed p) (cone_needed p) work cone (solved p work cone)
solved_kept p work cone Accepted e =
    let q = read_problem p in
    let fits = accepted_as_read p (length work) (length cone) e in
    rw (solved_accepted p work cone e)
    (left_kept q work cone (run q) (run-sized q fits.fitting) fits.long_work fits.long_cone)
solved_kept p work cone (Refused x) e =
    rw (solved-refused p work cone x e) (record { work_length_lem = refl; cone_length = refl; work_beyond = refl; cone_beyond = refl })

pub places_beyond_kept : (p : Problem) (work cone : List Float) → PlacesBeyondKept p work cone
places_beyond_kept p work cone = solved_kept p work cone (refusal p (length work) (length cone)) refl
