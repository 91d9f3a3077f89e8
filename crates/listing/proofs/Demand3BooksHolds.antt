-- Demand 3, said of books, holds in both ways.
use Prim.Native.Nat.{ℕ}
use mathlib.Core.Path.{◌≡◌, refl, ap, subst⁻¹}
use mathlib.Core.List.{List}
use Rattle.terms.specs.declared.Event.{Event}
use Rattle.items.specs.Items.{items_after}
use Rattle.tables.specs.Reading.{tables_by}
use Rattle.tables.specs.declared.Tables.{Tables}
use Rattle.rules.specs.declared.State.{State}
use Rattle.histories.specs.Histories.{reached}
use Rattle.closing.specs.Demand.{Demand}
use Rattle.closing.proofs.Demand3Holds.{demand3-read}
use Rattle.book.specs.Demands.{events_of}
use Rattle.book.proofs.DemandsHold.{demand2}
use Rattle.onward.specs.Onward.{events_in, judgement_on}
use Rattle.onward.specs.declared.Judgement.{Judgement}
use Rattle.onward.proofs.ReadingOnHolds.{reading-on-holds}
use Rattle.listing.specs.Books.{Demand3Books, SagaThere}

saga-there : (tables : Tables) (es : List Event) (s : State) (i : ℕ) → s ≡ reached tables es → Demand tables i → SagaThere tables es s i
saga-there tables es s i e d =
    subst⁻¹ (λ (x : State). SagaThere tables es x i) e
    (record { led_to = refl; order = d.order es; bounded = d.bounded es; zero = d.zero es; closes = d.closes es })

pub demand3-books : Demand3Books
unfolding judgement_on
demand3-books circles ed s at small read i below =
    let tables = (tables_by circles ed s).tables in
    let d = demand3-read circles ed s at read i below in
    record {
      read_on =
          saga-there tables (events_in (items_after ed s at)) _ i
          (ap (λ (x : Judgement). x.state) (reading-on-holds.reads circles ed s at small read).judgement) d;
      to_first_refusal = saga-there tables (events_of circles ed s at) _ i (demand2.reads circles ed s at small read).led_to d;
    }
