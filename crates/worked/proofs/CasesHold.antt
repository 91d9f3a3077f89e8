-- The proved cases and a book for every refusal, by computation.
use Prim.Native.Nat.{ℕ, ◌<◌}
use native.Mathlib.Omega.{arith}
use mathlib.Core.Path.{◌≡◌, refl, ap, subst⁻¹}
use lib.ListN.{length-replicate}
use Rattle.terms.specs.Limits.{most_bytes}
use Rattle.terms.specs.Refusals.{verdict_number}
use Rattle.laws.specs.Index.{any_below, highest, sum_to, tabulate}
use Rattle.sets.specs.Reach.{or_row, pivot, closed, leads_to}
use Rattle.number.specs.Number.{number_at, encode, width_of, number_within, row_from}
use Rattle.packing.specs.Fields.{encodes, fields_before}
use Rattle.ties.specs.Operations.{made, changed, rewritten}
use Rattle.ties.specs.Ties.{tied_to, counts, edge, ties_of, on_ring, ring_with, dirty_at, dirty, must_wait}
use Rattle.tables.specs.Sorts.{place_of, sort_from, sort_of, owned_by}
use Rattle.tables.specs.Dependencies.{kind_of, rises_to, entry_holds}
use Rattle.tables.specs.Circles.{begin_link, has_circle}
use Rattle.tables.specs.Reading.{empty_tables, sagas_from, entry_at, dependencies_from, unless_circle, rest_from, tables_by, edition_of}
use Rattle.rules.specs.States.{entered, spawned}
use Rattle.rules.specs.Rules.{child_active, declared_bars}
use Rattle.judge.specs.Judge.{ruling_of, state_after, judged}
use Rattle.closing.specs.Closing.{active_step, to_undo, next_undo, outstanding, closing}
use Rattle.items.specs.Items.{code_of, event_from, item_at, items_from, items_after}
use Rattle.tables.specs.declared.Circles.TheVariants.{Forbidden}
use Rattle.book.specs.Reading.{judge_all, reading_by, reading_of}
use Rattle.book.proofs.DemandsHold.{demand1}
use Rattle.book.specs.Packing.{write_outcome}
use Rattle.worked.specs.Cases.{CircleCases, EditionCases, HelperCases, NoLineDead, OrderCases, PCasesHold, times, too_long}

pub p-cases-hold : PCasesHold
unfolding any_below highest sum_to tabulate or_row pivot closed leads_to number_at made changed rewritten tied_to counts edge ties_of on_ring ring_with dirty_at dirty must_wait place_of sort_from sort_of owned_by kind_of rises_to entry_holds empty_tables row_from number_within sagas_from entry_at begin_link has_circle dependencies_from unless_circle rest_from edition_of tables_by entered declared_bars child_active ruling_of state_after judged active_step to_undo next_undo outstanding closing code_of event_from item_at items_from items_after judge_all reading_by
p-cases-hold = refl

-- 1 goes by the length alone, so that none of the zeros is looked at
zeros-refused : verdict_number (reading_of too_long).answer ≡ 1
zeros-refused = ap verdict_number (demand1.too_long Forbidden (edition_of too_long) too_long (subst⁻¹ (λ (n : ℕ). most_bytes < n) (length-replicate {A = ℕ} 65537 0) (omega arith))).0

pub no-line-dead : NoLineDead
unfolding any_below highest sum_to tabulate or_row pivot closed leads_to number_at encode width_of encodes fields_before made changed rewritten tied_to counts edge ties_of on_ring ring_with dirty_at dirty must_wait place_of sort_from sort_of owned_by kind_of rises_to entry_holds empty_tables row_from number_within sagas_from entry_at begin_link has_circle dependencies_from unless_circle rest_from edition_of tables_by entered declared_bars child_active ruling_of state_after judged code_of event_from item_at items_from items_after judge_all reading_by write_outcome times
no-line-dead = record { by_length = zeros-refused; by_books = refl; by_writing = refl }

pub circle-cases : CircleCases
unfolding any_below highest sum_to tabulate or_row pivot closed leads_to number_at made changed rewritten tied_to counts edge ties_of on_ring ring_with dirty_at dirty must_wait place_of sort_from sort_of owned_by kind_of rises_to entry_holds empty_tables row_from number_within sagas_from entry_at begin_link has_circle dependencies_from unless_circle rest_from edition_of tables_by entered declared_bars child_active ruling_of state_after judged code_of event_from item_at items_from items_after judge_all reading_by
circle-cases = record { refused = refl; permitted = refl; through_others = refl; not_by_kind_3 = refl }

pub order-cases : OrderCases
unfolding any_below highest sum_to tabulate or_row pivot closed leads_to number_at made changed rewritten tied_to counts edge ties_of on_ring ring_with dirty_at dirty must_wait place_of sort_from sort_of owned_by kind_of rises_to entry_holds empty_tables row_from number_within sagas_from entry_at begin_link has_circle dependencies_from unless_circle rest_from edition_of tables_by entered declared_bars child_active ruling_of state_after judged code_of event_from item_at items_from items_after judge_all reading_by
order-cases = record { through_committed = refl; bars_undo = refl; after_kept = refl; reads_apart = refl }

pub helper-cases : HelperCases
unfolding any_below highest sum_to tabulate or_row pivot closed leads_to number_at made changed rewritten tied_to counts edge ties_of on_ring ring_with dirty_at dirty must_wait place_of sort_from sort_of owned_by kind_of rises_to entry_holds empty_tables row_from number_within sagas_from entry_at begin_link has_circle dependencies_from unless_circle rest_from edition_of tables_by entered declared_bars child_active ruling_of state_after judged code_of event_from item_at items_from items_after judge_all reading_by spawned
helper-cases = record { answers = refl; handed = refl }

pub edition-cases : EditionCases
unfolding any_below highest sum_to tabulate or_row pivot closed leads_to number_at encode width_of encodes fields_before made changed rewritten tied_to counts edge ties_of on_ring ring_with dirty_at dirty must_wait place_of sort_from sort_of owned_by kind_of rises_to entry_holds empty_tables row_from number_within sagas_from entry_at begin_link has_circle dependencies_from unless_circle rest_from edition_of tables_by entered declared_bars child_active ruling_of state_after judged code_of event_from item_at items_from items_after judge_all reading_by write_outcome
edition-cases = record { accepted = refl; no_edition = refl; large_count = refl; no_record = refl; written = refl }
