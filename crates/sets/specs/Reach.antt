-- Following a relation from a to b, and the same computed: the closure of a table of rows, pivot by pivot.
use Rattle.std.specs.Prelude.{ℕ, zero, suc, ◌≡◌, Bool, true, false, cond, ◌&&◌, ◌||◌, ◌↔◌, List, [], ◌∷◌, map, ltb, get_or}
use Rattle.laws.specs.Index.{grid}

-- following R leads from a to b, in one step or more
pub data Leads (R : ℕ → ℕ → Bool) : ℕ → ℕ → Type 0 where
  last : {a b : ℕ} → R a b ≡ true → Leads R a b
  step : {a b c : ℕ} → R a b ≡ true → Leads R b c → Leads R a c

-- R among the numbers below n
abbrev pub among : ℕ → (ℕ → ℕ → Bool) → ℕ → ℕ → Bool
among n R a b = ltb a n && (ltb b n && R a b)

-- the entry of row a at b, false outside the table
abbrev pub at : List (List Bool) → ℕ → ℕ → Bool
at rows a b = get_or (get_or rows a []) b false

-- two rows, entry by entry
unfoldable pub or_row : List Bool → List Bool → List Bool
or_row [] ys = ys
or_row (x ∷ xs) [] = x ∷ xs
or_row (x ∷ xs) (y ∷ ys) = (x || y) ∷ or_row xs ys

-- each row that has k takes in row k
unfoldable pub pivot : ℕ → List (List Bool) → List (List Bool)
pivot k rows = map (λ row. cond (get_or row k false) (or_row row (get_or rows k [])) row) rows

-- the same for each k below n, from the lowest
unfoldable pub closed : ℕ → List (List Bool) → List (List Bool)
closed zero rows = rows
closed (suc k) rows = pivot k (closed k rows)

-- whether following R among the numbers below n leads from a to b, as the checker computes it
unfoldable pub leads_to : ℕ → (ℕ → ℕ → Bool) → ℕ → ℕ → Bool
leads_to n R a b = at (closed n (grid n R)) a b

-- what `leads_to` means, for any relation and any bound
pub record Following : Type 0 where
  -- it is true exactly when following the relation leads from a to b
  pub exact : (n : ℕ) (R : ℕ → ℕ → Bool) (a b : ℕ) → (leads_to n R a b ≡ true) ↔ Leads (among n R) a b
  -- with more pairs, whatever led still leads
  pub monotone : (n : ℕ) (R Q : ℕ → ℕ → Bool) → ((a b : ℕ) → R a b ≡ true → Q a b ≡ true)
      → (a b : ℕ) → leads_to n R a b ≡ true → leads_to n Q a b ≡ true
