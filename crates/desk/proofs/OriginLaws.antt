-- What every reading comes to: well-formed tables, and a state that events lead to.
use Rattle.std.specs.Prelude.{Ok}
use Prim.Native.Nat.{ℕ, ◌≤◌, ◌<◌}
use native.Mathlib.Omega.{arith}
use mathlib.Core.Path.{◌≡◌, refl, sym, ap, ◌∙◌, subst, subst⁻¹}
use mathlib.Core.List.{List, []}
use lib.ListN.{length}
use Rattle.laws.proofs.Bools.{bool_cases}
use Rattle.laws.proofs.Decisions.{lt-or}
use Rattle.terms.specs.Limits.{most_bytes}
use Rattle.terms.specs.declared.Event.{Event}
use Rattle.terms.specs.declared.Refusal.{Refusal}
use Rattle.terms.specs.declared.Refusal.TheVariants.{TooLong}
use Rattle.number.specs.Number.{fault}
use Rattle.number.specs.declared.Edition.{Edition}
use Rattle.items.specs.Items.{items_after}
use Rattle.items.specs.declared.Item.{Item}
use Rattle.tables.specs.Accepted.{Well}
use Rattle.tables.specs.Reading.{edition_of, empty_tables, tables_by}
use Rattle.tables.specs.Sorts.{owned_by}
use Rattle.tables.specs.declared.Circles.{Circles}
use Rattle.tables.specs.declared.Tables.{Tables}
use Rattle.tables.proofs.AcceptedWellHolds.{accepted-well}
use Rattle.histories.specs.Histories.{reached}
use Rattle.histories.proofs.RunLaws.{run_none}
use Rattle.rules.specs.States.{empty_state}
use Rattle.book.specs.Demands.{events_of}
use Rattle.book.specs.Reading.{opening_by, reading_by}
use Rattle.book.proofs.DemandsHold.{demand2}
use Rattle.book.proofs.ReadLaws.{answer-cases}
use Rattle.onward.specs.Onward.{events_in, judgement_by, judgement_on, judgement_to, judgement_up_to, no_records, nothing_read, records_up_to}
use Rattle.onward.specs.declared.Judgement.{Judgement}
use Rattle.onward.proofs.ReadingOnHolds.{reading-on-holds}
use Rattle.desk.specs.Ways.{circles_in, judged, reads_on}
use Rattle.desk.proofs.WayLaws.{judged-on, judged-to}

abbrev pub Origin : Judgement → Type 0
Origin j = Well j.tables × ((es : List Event) × (j.state ≡ reached j.tables es))

well-empty : Well empty_tables
unfolding empty_tables owned_by
well-empty =
    record {
      listed = omega arith;
      stepped = λ i h. absurd (omega arith);
      fits = omega arith;
      objects = omega arith;
      declared = omega arith;
      permitted = λ i h. absurd (omega arith);
      rising = λ i h. absurd (omega arith);
    }

nothing-origin : (ed : Edition) (r : Refusal) (p : ℕ) → Origin (nothing_read ed r p)
nothing-origin ed r p = (well-empty, ([], sym (run_none empty_tables empty_state)))

on-items : (ed : Edition) (tables : Tables) (items : List Item) → Well tables → Origin (judgement_on ed tables items)
unfolding judgement_on
on-items ed tables items well = (well, (events_in items, refl))

module _ (circles : Circles) (ed : Edition) (s : List ℕ) where
  -- by what its tables come to
  by-tables : (A : Type 0) → (most_bytes < length s → A) → ((at : ℕ) → length s ≤ most_bytes → (tables_by circles ed s).answer ≡ Ok at → A)
      → ((r : Refusal) (p : ℕ) → length s ≤ most_bytes → (tables_by circles ed s).answer ≡ fault r p → A) → A
  by-tables A long read refused = lt-or most_bytes (length s) long (λ small. answer-cases (tables_by circles ed s).answer (λ at e. read at small e) (λ r p e. refused r p small e))

  on-origin : Origin (judgement_by circles ed s)
  on-origin =
      by-tables (Origin (judgement_by circles ed s))
      (λ h. subst⁻¹ Origin (reading-on-holds.too_long circles ed s h).0 (nothing-origin ed TooLong 0))
      (λ at small e. subst⁻¹ Origin (reading-on-holds.reads circles ed s at small e).judgement (there at e))
      (λ r p small e. subst⁻¹ Origin (reading-on-holds.reads_nothing circles ed s r p small e).0 (nothing-origin ed r p))
    where
      there : (at : ℕ) → (tables_by circles ed s).answer ≡ Ok at → Origin (judgement_on ed (tables_by circles ed s).tables (items_after ed s at))
      there at e = on-items ed (tables_by circles ed s).tables (items_after ed s at) (accepted-well circles ed s at e)

  -- the records beside a reading change neither
  to-origin : (w : List ℕ) → Origin (judgement_to ed w (reading_by circles ed s))
  to-origin w =
      by-tables (Origin (judgement_to ed no_records (reading_by circles ed s)))
      (λ h. subst⁻¹ Origin (reading-on-holds.too_long circles ed s h).1.0 (nothing-origin ed TooLong 0))
      (λ at small e.
      let run = demand2.reads circles ed s at small e in (
        subst⁻¹ Well run.tables (accepted-well circles ed s at e),
        (events_of circles ed s at, run.led_to ∙ ap (λ (t : Tables). reached t (events_of circles ed s at)) (sym run.tables)),
      ))
      (λ r p small e. subst⁻¹ Origin (reading-on-holds.reads_nothing circles ed s r p small e).1.0 (nothing-origin ed r p))

up-to-origin : (circles : Circles) (s : List ℕ) → Origin (judgement_up_to circles s)
unfolding judgement_up_to
up-to-origin circles s = to-origin circles (edition_of s) s (records_up_to circles (edition_of s) (opening_by circles (edition_of s) s))

pub origin : (way : ℕ) (s : List ℕ) → Origin (judged way s)
origin way s =
    bool_cases (reads_on way)
    (λ on. subst Origin (judged-on way s (circles_in way) refl on) (on-origin (circles_in way) (edition_of s) s))
    (λ to. subst Origin (judged-to way s (circles_in way) refl to) (up-to-origin (circles_in way) s))
