-- What a plan that was read takes fits the rooms, and the line that is named is the first that is not understood.
use Prim.Native.Nat.{ℕ, ◌≤◌}
use mathlib.Core.Path.{◌≡◌}
use mathlib.Core.Bool.{true, ◌&&◌}
use mathlib.Core.List.{List}
use lib.Dec.{leb, ltb}
use lib.ListN.{length}
use borrow.Author.Tests.{leb-true}
use Rattle.laws.proofs.Bools.{bool_cases, on_and}
use Rattle.plan.specs.Lines.{entries_of}
use Rattle.plan.specs.Reading.{PlanRead, has_room, if_room, most_bytes, read_answer, told}
use Rattle.telling.specs.Telling.{Understood, Tells, not_told}
use Rattle.plan.specs.declared.Counts.{Counts}
use Rattle.plan.specs.declared.PlanUnread.{PlanUnread}
use Rattle.plan.specs.declared.PlanUnread.TheVariants.{NoRoom, NotUnderstood, TooLong}
use Rattle.std.proofs.Common.{Ok, Err, refl, sym}

module _ (names ends steps lists : ℕ) where
  pub record Fit (c : Counts) : Type 0 where
    pub names-fit : c.names ≤ names
    pub ends-fit : c.ends ≤ ends
    pub steps-fit : c.moves ≤ steps
    pub lists-fit : c.lists ≤ lists

  fit : (c : Counts) → has_room c names ends steps lists ≡ true → Fit c
  fit c e =
      let a = on_and (leb c.names names) (leb c.ends ends && (leb c.moves steps && leb c.lists lists)) e in
      let b = on_and (leb c.ends ends) (leb c.moves steps && leb c.lists lists) a.1 in
      let d = on_and (leb c.moves steps) (leb c.lists lists) b.1 in
      record {
        names-fit = leb-true c.names names a.0;
        ends-fit = leb-true c.ends ends b.0;
        steps-fit = leb-true c.moves steps d.0;
        lists-fit = leb-true c.lists lists d.1;
      }

  room-fit : (r : PlanRead) (c : Counts) → if_room r names ends steps lists ≡ Ok c → Fit c
  room-fit (Ok x) c e =
      bool_cases (has_room x names ends steps lists)
      (λ t. let z : Ok x ≡ Ok c = rw t at e in let same : x ≡ c = cc in rw same at (fit x t))
      (λ t. let z : Err NoRoom ≡ Ok c = rw t at e in cc)
  room-fit (Err why) c e = cc

  pub read_fits : (text : List ℕ) (c : Counts) → Ok c ≡ read_answer text names ends steps lists → Fit c
  unfolding read_answer
  read_fits text c e =
      bool_cases (ltb most_bytes (length text))
      (λ t. let z : Ok c ≡ Err TooLong = rw t at e in cc)
      (λ t. room-fit (told (entries_of text)) c (sym (rw t at e)))

  -- and every line of it was understood
  pub read-understood : (text : List ℕ) (c : Counts) → Ok c ≡ read_answer text names ends steps lists → Understood text
  unfolding read_answer
  read-understood text c e n u =
      bool_cases (ltb most_bytes (length text))
      (λ t. let z : Ok c ≡ Err TooLong = rw t at e in cc)
      (λ t. let z : Ok c ≡ Err (NotUnderstood n) = rw (t, u) at e in cc)

  -- the line that is named is the first that is not
  not-room : (r : PlanRead) (n : ℕ) → if_room r names ends steps lists ≡ Err (NotUnderstood n) → r ≡ Err (NotUnderstood n)
  not-room (Ok x) n e =
      bool_cases (has_room x names ends steps lists)
      (λ t. let z : Ok x ≡ Err (NotUnderstood n) = rw t at e in cc)
      (λ t. let z : Err NoRoom ≡ Err (NotUnderstood n) = rw t at e in cc)
  not-room (Err why) n e = e

  pub read-not : (text : List ℕ) (n : ℕ) → Err (NotUnderstood n) ≡ read_answer text names ends steps lists → told (entries_of text) ≡ Err (NotUnderstood n)
  unfolding read_answer
  read-not text n e =
      bool_cases (ltb most_bytes (length text))
      (λ t. let z : Err (NotUnderstood n) ≡ Err TooLong = rw t at e in cc)
      (λ t. not-room (told (entries_of text)) n (sym (rw t at e)))

  -- a plan that was not read tells which line it is, or nothing
  pub read-unread : (text : List ℕ) (why : PlanUnread) → Err why ≡ read_answer text names ends steps lists → Tells text (Err (not_told why))
  read-unread text (NotUnderstood n) e = read-not text n e
  read-unread text NoRoom e = refl
  read-unread text TooLong e = refl
