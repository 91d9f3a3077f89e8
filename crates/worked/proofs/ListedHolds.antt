-- The worked listing, by computation.
use mathlib.Core.Path.{refl}
use Rattle.laws.specs.Index.{any_below, highest, sum_to, tabulate}
use Rattle.sets.specs.Reach.{or_row, pivot, closed, leads_to}
use Rattle.number.specs.Number.{number_at, number_within, row_from}
use Rattle.ties.specs.Operations.{made, changed, rewritten}
use Rattle.ties.specs.Ties.{tied_to, counts, edge, ties_of, on_ring, ring_with, dirty_at, dirty, must_wait}
use Rattle.tables.specs.Sorts.{place_of, sort_from, sort_of, owned_by}
use Rattle.tables.specs.Dependencies.{kind_of, rises_to, entry_holds}
use Rattle.tables.specs.Circles.{begin_link, has_circle}
use Rattle.tables.specs.Reading.{empty_tables, sagas_from, entry_at, dependencies_from, unless_circle, rest_from, tables_by}
use Rattle.rules.specs.States.{entered}
use Rattle.rules.specs.Rules.{declared_bars}
use Rattle.judge.specs.Judge.{ruling_of, state_after, judged}
use Rattle.closing.specs.Closing.{active_step, to_undo, next_undo, outstanding, closing}
use Rattle.items.specs.Items.{code_of, event_from, item_at, items_from, items_after}
use Rattle.histories.specs.Histories.{run, taken}
use Rattle.onward.specs.Onward.{answer_in, events_in, judgement_by, judgement_on, place_in, refused_by, refused_from, records_from}
use Rattle.listing.specs.Words.{digits_from, decimal}
use Rattle.listing.specs.Lines.{line_count, later_line, line_of, lines_from, listing_of, no_lines}
use Rattle.worked.specs.Listed.{ListingHolds}

pub listing-holds : ListingHolds
unfolding any_below highest sum_to tabulate or_row pivot closed leads_to number_at made changed rewritten tied_to counts edge ties_of on_ring ring_with dirty_at dirty must_wait place_of sort_from sort_of owned_by kind_of rises_to entry_holds empty_tables row_from number_within sagas_from entry_at begin_link has_circle dependencies_from unless_circle rest_from tables_by entered declared_bars ruling_of state_after judged active_step to_undo next_undo outstanding closing code_of event_from item_at items_from items_after run taken events_in answer_in place_in refused_from records_from judgement_on judgement_by refused_by digits_from decimal line_count later_line line_of no_lines lines_from listing_of
listing-holds = record { accepted = refl; carried_on = refl; torn = refl; second_edition = refl }
