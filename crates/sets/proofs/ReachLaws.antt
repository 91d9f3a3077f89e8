-- The closure of a table holds at (a, b) exactly when following the table leads from a to b.
use Prim.Native.Nat.{ℕ, zero, suc, ◌<◌}
use native.Mathlib.Nat.{not-suc-le-zero}
use native.Mathlib.Omega.{arith}
use mathlib.Core.Path.{◌≡◌, refl, sym, ap, ◌∙◌, subst, fun_ext}
use mathlib.Core.Bool.{Bool, true, false, cond, ◌&&◌, ◌||◌, or-false}
use mathlib.Core.Logic.{◌⊎◌, inl, inr, ⊎_elim}
use mathlib.Core.List.{List, [], ◌∷◌}
use lib.Dec.{ltb}
use lib.ListN.{get_or, get_or-map}
use borrow.Author.Tests.{ltb-true}
use Rattle.laws.specs.Index.{grid, tabulate}
use Rattle.laws.proofs.Bools.{or_left, or_right, or_cases, and_on, on_and}
use Rattle.laws.proofs.Decisions.{same_or}
use Rattle.laws.proofs.IndexLaws.{grid-at}
use Rattle.laws.proofs.SameLaws.{tabulate-same}
use Rattle.sets.specs.Reach.{Leads, among, at, or_row, pivot, closed, leads_to}

get_or-or_row : (xs ys : List Bool) (b : ℕ) → get_or (or_row xs ys) b false ≡ (get_or xs b false || get_or ys b false)
unfolding or_row
get_or-or_row [] ys b = refl
get_or-or_row (x ∷ xs) [] b = sym (or-false (get_or (x ∷ xs) b false))
get_or-or_row (x ∷ xs) (y ∷ ys) zero = refl
get_or-or_row (x ∷ xs) (y ∷ ys) (suc b) = get_or-or_row xs ys b

get_or-taken : (t : Bool) (xs ys : List Bool) (b : ℕ) → get_or (cond t (or_row xs ys) xs) b false ≡ (get_or xs b false || (t && get_or ys b false))
get_or-taken true xs ys b = get_or-or_row xs ys b
get_or-taken false xs ys b = sym (or-false (get_or xs b false))

pub pivot-at : (k : ℕ) (rows : List (List Bool)) (a b : ℕ) → at (pivot k rows) a b ≡ (at rows a b || (at rows a k && at rows k b))
unfolding pivot
pivot-at k rows a b =
    ap (λ (r : List Bool). get_or r b false) (get_or-map (λ (row : List Bool). cond (get_or row k false) (or_row row (get_or rows k [])) row) rows a [])
    ∙ get_or-taken (at rows a k) (get_or rows a []) (get_or rows k []) b

-- two ways joined
pub join : {R : ℕ → ℕ → Bool} {a b c : ℕ} → Leads R a b → Leads R b c → Leads R a c
join (Leads.last h) w = Leads.step h w
join (Leads.step h v) w = Leads.step h (join v w)

-- the last step of a way
pub last_step : {R : ℕ → ℕ → Bool} {a b : ℕ} → Leads R a b → (c : ℕ) × (R c b ≡ true)
last_step {a = a} (Leads.last h) = (a, h)
last_step (Leads.step h w) = last_step w

-- the first step of a way back: it leads to one that has a way back too
pub circle-step : {R : ℕ → ℕ → Bool} {a : ℕ} → Leads R a a → (b : ℕ) × (R a b ≡ true) × Leads R b b
circle-step {a = a} (Leads.last h) = (a, h, Leads.last h)
circle-step (Leads.step {b = b} h w) = (b, h, join w (Leads.last h))

-- a way along R is a way along any relation that has all of R's pairs
pub leads-more : {R Q : ℕ → ℕ → Bool} → ((a b : ℕ) → R a b ≡ true → Q a b ≡ true) → {a b : ℕ} → Leads R a b → Leads Q a b
leads-more f {a} {b} (Leads.last h) = Leads.last (f a b h)
leads-more f {a} {b} (Leads.step {b = c} h w) = Leads.step (f a c h) (leads-more f w)

module _ (rows : List (List Bool)) where
  sound : (k a b : ℕ) → at (closed k rows) a b ≡ true → Leads (at rows) a b
  unfolding closed
  sound zero a b h = Leads.last h
  sound (suc k) a b h =
      ⊎_elim
      (λ e. sound k a b e)
      (λ e. let both = on_and (at (closed k rows) a k) (at (closed k rows) k b) e in join (sound k a k both.0) (sound k k b both.1))
      (or_cases (at (closed k rows) a b) (at (closed k rows) a k && at (closed k rows) k b) (sym (pivot-at k (closed k rows) a b) ∙ h))

  kept : (k a b : ℕ) → at (closed k rows) a b ≡ true → at (closed (suc k) rows) a b ≡ true
  unfolding closed
  kept k a b h = pivot-at k (closed k rows) a b ∙ or_left (at (closed k rows) a b) (at (closed k rows) a k && at (closed k rows) k b) h

  through : (k a b : ℕ) → at (closed k rows) a k ≡ true → at (closed k rows) k b ≡ true → at (closed (suc k) rows) a b ≡ true
  unfolding closed
  through k a b h g =
      pivot-at k (closed k rows) a b
      ∙ or_right (at (closed k rows) a b) (at (closed k rows) a k && at (closed k rows) k b) (and_on (at (closed k rows) a k) (at (closed k rows) k b) h g)

  first : (k a b : ℕ) → at rows a b ≡ true → at (closed k rows) a b ≡ true
  unfolding closed
  first zero a b h = h
  first (suc k) a b h = kept k a b (first k a b h)

  -- one step more in front, to a c that was a pivot
  more : (k a c b : ℕ) → at rows a c ≡ true → c < k → at (closed k rows) c b ≡ true → at (closed k rows) a b ≡ true
  unfolding closed
  more zero a c b h l g = absurd (not-suc-le-zero l)
  more (suc k) a c b h l g =
      go (λ x m. more k a c x h m)
      (or_cases (at (closed k rows) c b) (at (closed k rows) c k && at (closed k rows) k b) (sym (pivot-at k (closed k rows) c b) ∙ g))
    where
      go : ((x : ℕ) → c < k → at (closed k rows) c x ≡ true → at (closed k rows) a x ≡ true)
          → (at (closed k rows) c b ≡ true) ⊎ ((at (closed k rows) c k && at (closed k rows) k b) ≡ true)
          → at (closed (suc k) rows) a b ≡ true
      go rest (inl p) = same_or c k (λ e. through k a b (first k a k (rw e at h)) (rw e at p)) (λ e. kept k a b (rest b (omega arith) p))
      go rest (inr p) =
          let both = on_and (at (closed k rows) c k) (at (closed k rows) k b) p in
          same_or c k (λ e. through k a b (first k a k (rw e at h)) both.1) (λ e. through k a b (rest k (omega arith) both.0) both.1)

  complete : (n : ℕ) → ((a b : ℕ) → at rows a b ≡ true → b < n) → {a b : ℕ} → Leads (at rows) a b → at (closed n rows) a b ≡ true
  complete n small {a} {b} (Leads.last h) = first n a b h
  complete n small {a} {b} (Leads.step {b = c} h w) = more n a c b h (small a c h) (complete n small w)

module _ (n : ℕ) (R : ℕ → ℕ → Bool) where
  -- what `among` says of a pair
  pub among-small : (a b : ℕ) → among n R a b ≡ true → (a < n) × (b < n)
  among-small a b h =
      let x = on_and (ltb a n) (ltb b n && R a b) h in
      let y = on_and (ltb b n) (R a b) x.1 in
      (ltb-true a n x.0, ltb-true b n y.0)

  pub among-on : (a b : ℕ) → among n R a b ≡ true → R a b ≡ true
  among-on a b h = (on_and (ltb b n) (R a b) (on_and (ltb a n) (ltb b n && R a b) h).1).1

  table : at (grid n R) ≡ among n R
  table = fun_ext (λ a. fun_ext (λ b. grid-at n R a b))

  pub computed-leads : (a b : ℕ) → leads_to n R a b ≡ true → Leads (among n R) a b
  unfolding leads_to
  computed-leads a b h = subst (λ (Q : ℕ → ℕ → Bool). Leads Q a b) table (sound (grid n R) n a b h)

  pub leads-computed : (a b : ℕ) → Leads (among n R) a b → leads_to n R a b ≡ true
  unfolding leads_to
  leads-computed a b w =
      complete (grid n R) n (λ x y h. (among-small x y (sym (grid-at n R x y) ∙ h)).1) (subst (λ (Q : ℕ → ℕ → Bool). Leads Q a b) (sym table) w)

-- two relations that agree on the numbers below n lead alike
pub leads-same : (n : ℕ) (R Q : ℕ → ℕ → Bool) → ((a b : ℕ) → a < n → b < n → R a b ≡ Q a b) → (a b : ℕ) → leads_to n R a b ≡ leads_to n Q a b
unfolding leads_to
leads-same n R Q h a b =
    ap (λ (rows : List (List Bool)). at (closed n rows) a b)
    (tabulate-same n (λ x. tabulate n (R x)) (λ x. tabulate n (Q x)) (λ x l. tabulate-same n (R x) (Q x) (λ y m. h x y l m)))

-- ---- pairs added at one transaction v

-- whatever Q has and R has not, begins or ends at v
abbrev pub AddsAt : (ℕ → ℕ → Bool) → (ℕ → ℕ → Bool) → ℕ → Type 0
AddsAt R Q v = (a b : ℕ) → Q a b ≡ true → (R a b ≡ true) ⊎ ((a ≡ v) ⊎ (b ≡ v))

-- following Q goes by R alone, or through v
via : {R Q : ℕ → ℕ → Bool} {v : ℕ} → AddsAt R Q v → {a b : ℕ} → Leads Q a b
    → Leads R a b ⊎ (((a ≡ v) ⊎ Leads Q a v) × ((b ≡ v) ⊎ Leads Q v b))
via {Q = Q} f {a} {b} (Leads.last h) =
    ⊎_elim (λ r. inl (Leads.last r))
    (⊎_elim
    (λ e. inr (inl e, inr (Leads.last (subst (λ (x : ℕ). Q x b ≡ true) e h))))
    (λ e. inr (inr (Leads.last (subst (λ (x : ℕ). Q a x ≡ true) e h)), inl e)))
    (f a b h)
via {Q = Q} {v = v} f {a} {b} (Leads.step {b = c} h w) =
    ⊎_elim
    (λ r.
    ⊎_elim (λ s. inl (Leads.step s r))
    (⊎_elim
    (λ e. inr (inl e, inr (Leads.step (subst (λ (x : ℕ). Q x c ≡ true) e h) w)))
    (λ e. inr (inr (Leads.last (subst (λ (x : ℕ). Q a x ≡ true) e h)), inr (subst (λ (x : ℕ). Leads Q x b) e w))))
    (f a c h))
    (λ m. inr (inr (⊎_elim (λ e. Leads.last (subst (λ (x : ℕ). Q a x ≡ true) e h)) (λ x. Leads.step h x) m.0), m.1))
    (via f w)

-- a ring of Q is one of R, or goes through v
pub ring-via : {R Q : ℕ → ℕ → Bool} {v : ℕ} → AddsAt R Q v → {u : ℕ} → Leads Q u u → Leads R u u ⊎ (Leads Q v u × Leads Q u v)
ring-via {Q = Q} {v = v} f {u} w =
    ⊎_elim inl
    (λ m.
    ⊎_elim
    (λ e. inr (subst (λ (x : ℕ). Leads Q x u) e w, subst (λ (x : ℕ). Leads Q u x) e w))
    (λ to. ⊎_elim (λ e. inr (subst (λ (x : ℕ). Leads Q x u) e w, subst (λ (x : ℕ). Leads Q u x) e w)) (λ from. inr (from, to)) m.1)
    m.0)
    (via f w)
