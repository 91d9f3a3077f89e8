-- The list in which each is the lowest that could come next is an order to replay in, as the promise describes it; and any such order is that list.
use Prim.Native.Nat.{ℕ, ◌<◌}
use mathlib.Core.Path.{◌≡◌, refl, sym, ap, ◌∙◌}
use mathlib.Core.Bool.{true, false, not}
use mathlib.Core.List.{List, [], ◌∷◌, ◌++◌, append_assoc, append-nil}
use Rattle.laws.proofs.Bools.{and-off, and_on, and-rest, bool_cases, clash, is-not, not-off}
use Rattle.ties.specs.declared.Ops.{Ops}
use Rattle.replay.specs.Promises.{HoldsCommitted, ReplayOrder, Tie, Waits}
use Rattle.replay.specs.Replay.{holds, is_free, is_left, listed}
use Rattle.replay.proofs.Courses.{Course, Next, course-at, course-end, next-free, next-left, on, over}
use Rattle.replay.proofs.KeptTies.{Limited, holds-is, tie-is}
use Rattle.replay.proofs.ListLaws.{listed_here, place_of}
use Rattle.replay.proofs.Waiting.{free, held, held-waits, holder-left, left-holds, left-unlisted, not-held, waits-held}

module _ (ops : Ops) (limited : Limited ops) (order : List ℕ) where
  module _ (c : Course ops [] order) where
    lists : (t : ℕ) → listed order t ≡ true → HoldsCommitted ops t
    lists t h = let w = place_of order t h in left-holds ops w.earlier t (next-left ops (course-at ops c w.earlier w.later t w.split))

    lists-all : (t : ℕ) → HoldsCommitted ops t → listed order t ≡ true
    lists-all t w = bool_cases (listed order t) (λ h. h) (λ h. clash (holder-left ops order t w h) (course-end ops c t))

    not_yet : (xs ys : List ℕ) (t : ℕ) → order ≡ xs ++ (t ∷ ys) → listed xs t ≡ false
    not_yet xs ys t e = left-unlisted ops xs t (next-left ops (course-at ops c xs ys t e))

    not-again : (xs ys : List ℕ) (t : ℕ) → order ≡ xs ++ (t ∷ ys) → listed ys t ≡ false
    not-again xs ys t e =
        is-not (listed ys t)
        (λ h.
        let w = place_of ys t h in
        clash (listed_here xs w.earlier t)
        (not_yet (xs ++ (t ∷ w.earlier)) w.later t
        (e ∙ ap (λ (l : List ℕ). xs ++ (t ∷ l)) w.split ∙ sym (append_assoc xs (t ∷ w.earlier) (t ∷ w.later)))))

    points-forward : (xs ys : List ℕ) (b : ℕ) → order ≡ xs ++ (b ∷ ys) → (a : ℕ) → Tie ops a b → listed xs a ≡ true
    points-forward xs ys b e a tie =
        bool_cases (listed xs a) (λ h. h)
        (λ h. absurd (not-held ops xs b limited (next-free ops (course-at ops c xs ys b e)) (waits-held ops xs b limited (a, tie, h))))

    lower-waits : (xs ys : List ℕ) (b : ℕ) → order ≡ xs ++ (b ∷ ys) → (t : ℕ) → t < b → HoldsCommitted ops t → listed xs t ≡ false → Waits ops xs t
    lower-waits xs ys b e t l w h =
        held-waits ops xs t
        (held ops xs t (and-rest (is_left ops xs t) (is_free ops xs t) ((course-at ops c xs ys b e).lowest t l) (holder-left ops xs t w h)))

    pub course-replays : ReplayOrder ops order
    course-replays =
        record {
          all = λ t. (lists t, lists-all t);
          once = λ xs ys t e. (not_yet xs ys t e, not-again xs ys t e);
          forward = points-forward;
          lowest = lower-waits;
        }

  module _ (o : ReplayOrder ops order) where
    -- whoever stands behind the first of the list comes next after them
    comes : (xs ys : List ℕ) (b : ℕ) → order ≡ xs ++ (b ∷ ys) → Next ops xs b
    comes xs ys b e =
        record {
          could =
              and_on (is_left ops xs b) (is_free ops xs b)
              (holder-left ops xs b ((o.all b).0 (ap (λ (l : List ℕ). listed l b) e ∙ listed_here xs ys b)) (o.once xs ys b e).0)
              (free ops xs b (λ w. clash (o.forward xs ys b e w.a (tie-is ops w.a b w.ahead)) (left-unlisted ops xs w.a w.left)));
          lowest = λ t l.
              and-off (is_left ops xs t) (is_free ops xs t)
              (λ left.
              is-not (is_free ops xs t)
              (λ f.
              not-held ops xs t limited f
              (waits-held ops xs t limited (o.lowest xs ys b e t l (left-holds ops xs t left) (left-unlisted ops xs t left)))));
        }

    onward : (xs ys : List ℕ) → order ≡ xs ++ ys → Course ops xs ys
    onward xs [] e =
        over
        (λ t.
        and-off (holds ops t) (not (listed xs t))
        (λ h. not-off (listed xs t) (ap (λ (l : List ℕ). listed l t) (sym (append-nil xs) ∙ sym e) ∙ (o.all t).1 (holds-is ops t h))))
    onward xs (b ∷ ys) e = on (comes xs ys b e) (onward (xs ++ (b ∷ [])) ys (e ∙ sym (append_assoc xs (b ∷ []) ys)))

    pub replays-course : Course ops [] order
    replays-course = onward [] order refl
