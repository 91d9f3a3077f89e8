-- The worked listing (docs/RULES.md, 7 The listing), byte for byte: the lines of its book, one after the other, are its output.
use Rattle.std.specs.Prelude.{ℕ, ◌≡◌, List, [], ◌∷◌, ◌++◌}
use Rattle.number.specs.declared.Edition.TheVariants.{Second, First}
use Rattle.tables.specs.declared.Circles.TheVariants.{Forbidden}
use Rattle.worked.specs.Cases.{listed, listed_two}
use Rattle.listing.specs.Lines.{listing_by}

-- what became of the transactions, the operation and the saga
abbrev after_all : List ℕ
after_all =
    -- t 0 aborted
    116 ∷ 32 ∷ 48 ∷ 32 ∷ 97 ∷ 98 ∷ 111 ∷ 114 ∷ 116 ∷ 101 ∷ 100 ∷ 10
    -- t 1 committed
    ∷ 116 ∷ 32 ∷ 49 ∷ 32 ∷ 99 ∷ 111 ∷ 109 ∷ 109 ∷ 105 ∷ 116 ∷ 116 ∷ 101 ∷ 100 ∷ 10
    -- t 2 idle
    ∷ 116 ∷ 32 ∷ 50 ∷ 32 ∷ 105 ∷ 100 ∷ 108 ∷ 101 ∷ 10
    -- t 3 idle
    ∷ 116 ∷ 32 ∷ 51 ∷ 32 ∷ 105 ∷ 100 ∷ 108 ∷ 101 ∷ 10
    -- t 4 active
    ∷ 116 ∷ 32 ∷ 52 ∷ 32 ∷ 97 ∷ 99 ∷ 116 ∷ 105 ∷ 118 ∷ 101 ∷ 10
    -- op 0 0 write 4 active
    ∷ 111 ∷ 112 ∷ 32 ∷ 48 ∷ 32 ∷ 48 ∷ 32 ∷ 119 ∷ 114 ∷ 105 ∷ 116 ∷ 101 ∷ 32 ∷ 52 ∷ 32 ∷ 97 ∷ 99 ∷ 116 ∷ 105 ∷ 118 ∷ 101 ∷ 10
    -- saga 0 2 begin 3
    ∷ 115 ∷ 97 ∷ 103 ∷ 97 ∷ 32 ∷ 48 ∷ 32 ∷ 50 ∷ 32 ∷ 98 ∷ 101 ∷ 103 ∷ 105 ∷ 110 ∷ 32 ∷ 51 ∷ 10
    ∷ []

abbrev pub output : List ℕ
output =
    -- book accepted 7
    98 ∷ 111 ∷ 111 ∷ 107 ∷ 32 ∷ 97 ∷ 99 ∷ 99 ∷ 101 ∷ 112 ∷ 116 ∷ 101 ∷ 100 ∷ 32 ∷ 55 ∷ 10 ∷ after_all

-- ---- the same with refused events between the others

-- T2 committed though it is not active; T2 begun though T1 is not committed; and an operation with a mark that is none
abbrev carried : List ℕ
carried =
    0x01 ∷ 0x01 ∷ 0x02 ∷ 0x01 ∷ 0x01 ∷ 0x00 ∷ 0x02 ∷ 0x02 ∷ 0x01 ∷ 0x00 ∷ 0x01 ∷ 0x01 ∷ 0x01 ∷ 0x02 ∷ 0x01 ∷ 0x04 ∷ 0x04 ∷ 0x01 ∷ 0x00 ∷ 0x01 ∷ 0x05 ∷ 0x01
    ∷ 0x04 ∷ 0x00 ∷ 0x02 ∷ 0x01 ∷ 0x03 ∷ 0x00 ∷ 0x04 ∷ 0x04 ∷ 0x00 ∷ 0x05 ∷ []

abbrev no_lines : List ℕ
no_lines =
    -- no 0 11
    110 ∷ 111 ∷ 32 ∷ 48 ∷ 32 ∷ 49 ∷ 49 ∷ 10
    -- no 3 13
    ∷ 110 ∷ 111 ∷ 32 ∷ 51 ∷ 32 ∷ 49 ∷ 51 ∷ 10
    -- no 9 8
    ∷ 110 ∷ 111 ∷ 32 ∷ 57 ∷ 32 ∷ 56 ∷ 10
    ∷ after_all

-- ---- the listing's book in edition 2: its `op` line ends with the record, 'op 0 0 write 4 active 2097151'

abbrev output_two : List ℕ
output_two =
    98 ∷ 111 ∷ 111 ∷ 107 ∷ 32 ∷ 97 ∷ 99 ∷ 99 ∷ 101 ∷ 112 ∷ 116 ∷ 101 ∷ 100 ∷ 32 ∷ 55 ∷ 10
    ∷ 116 ∷ 32 ∷ 48 ∷ 32 ∷ 97 ∷ 98 ∷ 111 ∷ 114 ∷ 116 ∷ 101 ∷ 100 ∷ 10
    ∷ 116 ∷ 32 ∷ 49 ∷ 32 ∷ 99 ∷ 111 ∷ 109 ∷ 109 ∷ 105 ∷ 116 ∷ 116 ∷ 101 ∷ 100 ∷ 10
    ∷ 116 ∷ 32 ∷ 50 ∷ 32 ∷ 105 ∷ 100 ∷ 108 ∷ 101 ∷ 10
    ∷ 116 ∷ 32 ∷ 51 ∷ 32 ∷ 105 ∷ 100 ∷ 108 ∷ 101 ∷ 10
    ∷ 116 ∷ 32 ∷ 52 ∷ 32 ∷ 97 ∷ 99 ∷ 116 ∷ 105 ∷ 118 ∷ 101 ∷ 10
    ∷ 111 ∷ 112 ∷ 32 ∷ 48 ∷ 32 ∷ 48 ∷ 32 ∷ 119 ∷ 114 ∷ 105 ∷ 116 ∷ 101 ∷ 32 ∷ 52 ∷ 32 ∷ 97 ∷ 99 ∷ 116 ∷ 105 ∷ 118 ∷ 101 ∷ 32 ∷ 50 ∷ 48 ∷ 57 ∷ 55 ∷ 49 ∷ 53 ∷ 49 ∷ 10
    ∷ 115 ∷ 97 ∷ 103 ∷ 97 ∷ 32 ∷ 48 ∷ 32 ∷ 50 ∷ 32 ∷ 98 ∷ 101 ∷ 103 ∷ 105 ∷ 110 ∷ 32 ∷ 51 ∷ 10
    ∷ []

pub record ListingHolds : Type 0 where
  pub accepted : listing_by Forbidden First listed ≡ output
  -- the lines of refused events follow line 1, which counts the accepted ones: 'book accepted 7'
  pub carried_on : listing_by Forbidden First carried ≡ 98 ∷ 111 ∷ 111 ∷ 107 ∷ 32 ∷ 97 ∷ 99 ∷ 99 ∷ 101 ∷ 112 ∷ 116 ∷ 101 ∷ 100 ∷ 32 ∷ 55 ∷ 10 ∷ no_lines
  -- and torn behind them: 'book refused 2 7 33'
  pub torn : listing_by Forbidden First (carried ++ (0x02 ∷ [])) ≡ 98 ∷ 111 ∷ 111 ∷ 107 ∷ 32 ∷ 114 ∷ 101 ∷ 102 ∷ 117 ∷ 115 ∷ 101 ∷ 100 ∷ 32 ∷ 50 ∷ 32 ∷ 55 ∷ 32 ∷ 51 ∷ 51 ∷ 10 ∷ no_lines
  pub second_edition : listing_by Forbidden Second listed_two ≡ output_two
