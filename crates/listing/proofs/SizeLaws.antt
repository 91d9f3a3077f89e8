-- How long a listing can be.
use Rattle.std.specs.Prelude.{Ok, Err}
use Prim.Native.Nat.{ℕ, zero, suc, ◌+◌, ◌*◌, ◌-◌, ◌≤◌, ◌<◌}
use native.Mathlib.Omega.{arith}
use mathlib.Core.Path.{◌≡◌, refl, ap, subst}
use mathlib.Core.List.{List, [], ◌∷◌, ◌++◌}
use lib.ListN.{length, take, length-append}
use Rattle.laws.proofs.Decisions.{lt-or}
use Rattle.terms.specs.Limits.{most_bytes}
use Rattle.terms.specs.Refusals.{number_of}
use Rattle.terms.proofs.RefusalLaws.{number-most}
use Rattle.number.specs.declared.Edition.{Edition}
use Rattle.items.specs.Items.{items_after}
use Rattle.items.specs.declared.Item.{Item}
use Rattle.tables.specs.Reading.{TablesAnswer, tables_by}
use Rattle.tables.specs.declared.Circles.{Circles}
use Rattle.tables.specs.declared.Tables.{Tables}
use Rattle.rules.specs.States.{empty_state}
use Rattle.rules.specs.declared.State.{State}
use Rattle.walk.specs.Walk.{state_then}
use Rattle.onward.specs.Onward.{no_at, refused_by, refused_from}
use Rattle.onward.specs.declared.Judgement.{Judgement}
use Rattle.onward.specs.declared.No.{No}
use Rattle.onward.proofs.ItemCountLaws.{few-items}
use Rattle.onward.proofs.OnwardLaws.{long-refused, refused_none, refused-there}
use Rattle.onward.proofs.RefusedLaws.{by-item}
use Rattle.listing.specs.Lines.{line_count, line_of, lines_from, listing_of, most_listing, no_line, no_lines}
use Rattle.listing.proofs.DigitLaws.{decimal-few}
use Rattle.listing.proofs.ListingLaws.{line-fits}
use Rattle.listing.proofs.StepLaws.{parts}

-- ---- the `no` lines

-- five digits and two
no_short : (x : No) → x.index < 100000 → length (no_line x) ≤ 12
no_short x h =
    simp length-append (omega (arith, decimal-few 4 x.index h, decimal-few 1 (number_of x.refusal) (omega (arith, number-most x.refusal))))

-- at most one for each item
nos-short : (tables : Tables) (items : List Item) (s : State) (i : ℕ) → i + length items ≤ 100000
    → length (no_lines (refused_from tables s i items)) ≤ 12 * length items
unfolding no_lines refused_from
nos-short tables [] s i h = omega arith
nos-short tables (x ∷ l) s i h =
    let rest = refused_from tables (state_then tables s x) (i + 1) l in
    let short = nos-short tables l (state_then tables s x) (i + 1) (omega arith) in
    by-item tables s i x l
    (λ y q. rw q (omega (arith, short)))
    (λ r y v q. rw q (omega (arith, short, no_short (no_at i r) (omega arith), length-append (no_line (no_at i r)) (no_lines rest))))
    (λ q. rw q (omega arith))

-- the first of them are no longer than all
pub firsts-short : (n : ℕ) (l : List No) → length (no_lines (take n l)) ≤ length (no_lines l)
unfolding no_lines
firsts-short zero l = omega arith
firsts-short (suc n) [] = omega arith
firsts-short (suc n) (x ∷ l) =
    omega (arith, firsts-short n l, length-append (no_line x) (no_lines (take n l)), length-append (no_line x) (no_lines l))

-- of a book
abbrev pub most_no_bytes : ℕ
most_no_bytes = 393216

pub none-short : {l : List No} → l ≡ [] → length (no_lines l) ≤ most_no_bytes
unfolding no_lines
none-short e = rw e (omega arith)

module _ (circles : Circles) (ed : Edition) (s : List ℕ) where
  by_answer : length s ≤ most_bytes → (a : TablesAnswer) → (tables_by circles ed s).answer ≡ a → length (no_lines (refused_by circles ed s)) ≤ most_no_bytes
  by_answer short (Ok at) e =
      let few = few-items ed s at in
      subst (λ (l : List No). length (no_lines l) ≤ most_no_bytes) (refused-there circles ed s short (tables_by circles ed s) refl at e)
      (omega (arith, nos-short (tables_by circles ed s).tables (items_after ed s at) empty_state 0 (omega arith)))
  by_answer short (Err f) e = none-short (refused_none circles ed s short (tables_by circles ed s) refl f.refusal f.place e)

  pub nos-of-book : length (no_lines (refused_by circles ed s)) ≤ most_no_bytes
  nos-of-book =
      lt-or most_bytes (length s) (λ long. none-short (long-refused circles ed s long))
      (λ short. by_answer short (tables_by circles ed s).answer refl)

-- ---- the others

lines-short : (r : Judgement) (k n : ℕ) → length (lines_from r k n) ≤ 103 * n
unfolding lines_from
lines-short r k zero = omega arith
lines-short r k (suc n) =
    omega (arith, line-fits r k, lines-short r (k + 1) n, length-append (line_of r k) (lines_from r (k + 1) n))

few-lines : (r : Judgement) → line_count r ≤ 337
unfolding line_count
few-lines r = omega arith

-- ---- all together

pub listing-short : (r : Judgement) (l : List No) → length (no_lines l) ≤ most_no_bytes → length (listing_of r l) ≤ most_listing
listing-short r l h =
    let later = lines_from r 1 (line_count r - 1) in
    omega (arith, h, ap length (parts r l), line-fits r 0, lines-short r 1 (line_count r - 1), few-lines r, length-append (line_of r 0) (no_lines l ++ later), length-append (no_lines l) later)
