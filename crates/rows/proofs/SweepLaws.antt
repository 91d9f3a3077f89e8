-- A sweep over the operations from the last down: what one more adds to who uses and writes its object, and to who stands before whom.
use Prim.Native.Nat.{ℕ, zero, suc, ◌+◌, ◌≤◌, ◌<◌}
use native.Mathlib.Omega.{arith}
use mathlib.Core.Path.{◌≡◌, refl, sym, ap, ap₂, ◌∙◌, subst}
use mathlib.Core.Bool.{Bool, true, false, cond, not, ◌&&◌, ◌||◌, and-true, and-false, or-false}
use mathlib.Core.Logic.{◌≢◌, ⊎_elim}
use mathlib.Core.List.{List}
use lib.Dec.{eqb, leb}
use lib.Bits.{bit_or}
use lib.ListN.{length, get_or, set, replicate, length-set, length-replicate}
use lib.Seq.{get_or-set_same, get_or-set_other}
use borrow.Author.Tests.{eqb-true, eq-eqb, ne_eqb, le-leb, leb-true}
use Rattle.laws.specs.Index.{any_below}
use Rattle.laws.proofs.Bools.{or_left, or_right, or_cases, and_on, on_and, together, is-not, clash, bool_cases}
use Rattle.laws.proofs.Decisions.{same_or}
use Rattle.laws.proofs.IndexLaws.{any-intro, any-elim, any_same}
use Rattle.terms.specs.Events.{is_write}
use Rattle.sets.specs.Sets.{mem, inserted}
use Rattle.sets.proofs.SetLaws.{mem-empty, mem-inserted, mem-union}
use Rattle.ties.specs.declared.Operation.{Operation}
use Rattle.ties.specs.Ties.{conflict, is_gone, counts, edge, ties_of}
use Rattle.ties.proofs.TieLaws.{kept_small}
use Rattle.rows.specs.declared.Sweep.{Sweep}
use Rattle.rows.specs.Rows.{mem_at, since, uses, used_from, written_from, stands_from, Swept}

-- ---- a search from i on

module _ (n i : ℕ) (f : ℕ → Bool) where
  since-intro : (q : ℕ) → i ≤ q → q < n → f q ≡ true → since n i f ≡ true
  since-intro q l h t = any-intro n (λ k. leb i k && f k) q h (and_on (leb i q) (f q) (le-leb i q l) t)

  since-elim : since n i f ≡ true → (q : ℕ) × (i ≤ q) × (q < n) × (f q ≡ true)
  since-elim h =
      let w = any-elim n (λ k. leb i k && f k) h in
      let b = on_and (leb i w.0) (f w.0) w.2 in
      (w.0, leb-true i w.0 b.0, w.1, b.1)

  since-end : n ≤ i → since n i f ≡ false
  since-end h = is-not (since n i f) (λ t. let w = since-elim t in absurd (omega (arith, w.1, w.2)))

  since-same : (g : ℕ → Bool) → ((q : ℕ) → f q ≡ g q) → since n i f ≡ since n i g
  since-same g h = any_same n (λ k. leb i k && f k) (λ k. leb i k && g k) (λ k l. ap (λ (b : Bool). leb i k && b) (h k))

  since_none : ((q : ℕ) → f q ≡ false) → since n i f ≡ false
  since_none h = is-not (since n i f) (λ t. let w = since-elim t in clash w.3 (h w.0))

since-step : (n i : ℕ) (f : ℕ → Bool) → i < n → since n i f ≡ (since n (i + 1) f || f i)
since-step n i f l =
    together (since n i f) (since n (i + 1) f || f i)
    (λ h.
    let w = since-elim n i f h in
    same_or w.0 i
    (λ e. or_right (since n (i + 1) f) (f i) (subst (λ (q : ℕ). f q ≡ true) e w.3))
    (λ e. or_left (since n (i + 1) f) (f i) (since-intro n (i + 1) f w.0 (omega (arith, w.1)) w.2 w.3)))
    (λ h. ⊎_elim
    (λ s. let w = since-elim n (i + 1) f s in since-intro n i f w.0 (omega (arith, w.1)) w.2 w.3)
    (λ t. since-intro n i f i (omega arith) l t)
    (or_cases (since n (i + 1) f) (f i) h))

since-and : (n i : ℕ) (f : ℕ → Bool) (b : Bool) → since n i (λ q. f q && b) ≡ (since n i f && b)
since-and n i f true = since-same n i (λ q. f q && true) f (λ q. and-true (f q)) ∙ sym (and-true (since n i f))
since-and n i f false = since_none n i (λ q. f q && false) (λ q. and-false (f q)) ∙ sym (and-false (since n i f))

-- ---- one tie, in the order in which the sweep looks

pub eqb-sym : (a b : ℕ) → eqb a b ≡ eqb b a
eqb-sym a b = same_or a b (λ e. eq-eqb a b e ∙ sym (eq-eqb b a (sym e))) (λ e. ne_eqb a b e ∙ sym (ne_eqb b a (λ f. e (sym f))))

shuffle : (c w h s e f : Bool) → (((c && w) && (not h && not s)) && (e && f)) ≡ ((w && (not h && (c && f))) && (e && not s))
shuffle false false h s e f = refl
shuffle false true true s e f = refl
shuffle false true false s e f = refl
shuffle true false h s e f = refl
shuffle true true true s e f = refl
shuffle true true false true e false = refl
shuffle true true false true true true = refl
shuffle true true false true false true = refl
shuffle true true false false true true = refl
shuffle true true false false true false = refl
shuffle true true false false false true = refl
shuffle true true false false false false = refl

none : (w a c z : Bool) → ((w && (a && (c && false))) && z) ≡ false
none false a c z = refl
none true false c z = refl
none true true false z = refl
none true true true z = refl

-- by p's tie to q a stands before k: a answers for p, and k, who is another, for q
tie-to : (p q : Operation) (a k : ℕ) → is_gone p ≡ false
    → edge p q a k ≡ (((is_write p.mark || is_write q.mark) && uses p.object k q) && (eqb a p.responsible && not (eqb k p.responsible)))
unfolding edge counts
tie-to p q a k live =
    let c = eqb p.object q.object in
    let w = is_write p.mark || is_write q.mark in
    let h = is_gone q in
    let e = eqb a p.responsible in
    let mine = p.responsible in
    let its = q.responsible in
    rw live (shuffle c w h (eqb mine its) e (eqb k its)
    ∙ bool_cases (eqb k its)
    (λ g. ap (λ (b : Bool). (w && (not h && (c && eqb k its))) && (e && not b)) (ap (eqb mine) (sym (eqb-true k its g)) ∙ eqb-sym mine k))
    (λ g. rw g (none w (not h) c (e && not (eqb mine its)) ∙ sym (none w (not h) c (e && not (eqb k mine))))))

module _ (n : ℕ) (op : ℕ → Operation) (j : ℕ) (p : Operation) (a k : ℕ) where
  -- those from j on that p is tied to: who uses its object, if it is a write, else who writes it
  ties-live : is_gone p ≡ false → since n j (λ q. edge p (op q) a k)
      ≡ (cond (is_write p.mark) (used_from n op j p.object k) (written_from n op j p.object k) && (eqb a p.responsible && not (eqb k p.responsible)))
  ties-live live =
      since-same n j (λ q. edge p (op q) a k)
      (λ q. ((is_write p.mark || is_write (op q).mark) && uses p.object k (op q)) && (eqb a p.responsible && not (eqb k p.responsible)))
      (λ q. tie-to p (op q) a k live)
      ∙ since-and n j (λ q. (is_write p.mark || is_write (op q).mark) && uses p.object k (op q)) (eqb a p.responsible && not (eqb k p.responsible))
      ∙ ap (λ (b : Bool). b && (eqb a p.responsible && not (eqb k p.responsible))) (by-mark (is_write p.mark))
    where
      by-mark : (b : Bool) → since n j (λ q. (b || is_write (op q).mark) && uses p.object k (op q))
          ≡ cond b (used_from n op j p.object k) (written_from n op j p.object k)
      by-mark true = refl
      by-mark false = refl

  ties-gone : is_gone p ≡ true → since n j (λ q. edge p (op q) a k) ≡ false
  unfolding edge counts
  ties-gone h = since_none n j (λ q. edge p (op q) a k) (λ q. rw (h, and-false (conflict p (op q).object (op q).mark)))

-- ---- sets in a list

-- the set at each place y holds k exactly where f y k says so
abbrev Holds : List ℕ → (ℕ → ℕ → Bool) → Type 0
Holds l f = (y k : ℕ) → mem_at l y k ≡ f y k

holds-none : (m : ℕ) (f : ℕ → ℕ → Bool) → ((y k : ℕ) → f y k ≡ false) → Holds (replicate m 0) f
holds-none m f h y k = ap (λ (x : ℕ). mem x k) (all-empty m y) ∙ mem-empty k ∙ sym (h y k)
  where
    all-empty : (m y : ℕ) → ◌≡◌ {A = ℕ} (get_or (replicate m 0) y 0) 0
    all-empty zero y = refl
    all-empty (suc m) zero = refl
    all-empty (suc m) (suc y) = all-empty m y

-- a store at o, which changes f there alone
holds-set : (l : List ℕ) (o x : ℕ) (f g : ℕ → ℕ → Bool) → Holds l f → o < length l
    → ((k : ℕ) → mem x k ≡ g o k) → ((y k : ℕ) → y ≢ o → f y k ≡ g y k) → Holds (set l o x) g
holds-set l o x f g h s here there y k =
    same_or y o
    (λ e. ap (λ (z : ℕ). mem_at (set l o x) z k) e ∙ ap (λ (z : ℕ). mem z k) (get_or-set_same l o x 0 s) ∙ here k ∙ ap (λ (z : ℕ). g z k) (sym e))
    (λ e. ap (λ (z : ℕ). mem z k) (get_or-set_other l o y x 0 e) ∙ h y k ∙ there y k e)

-- ---- the sweep

module _ (n : ℕ) (op : ℕ → Operation) where
  pub swept_none : Swept n op n (record { users = replicate 32 0; writers = replicate 32 0; rows = replicate 64 0 })
  swept_none = record {
    users_long = length-replicate {A = ℕ} 32 0;
    writers_long = length-replicate {A = ℕ} 32 0;
    rows_long = length-replicate {A = ℕ} 64 0;
    used = holds-none 32 (used_from n op n) (λ o k. since-end n n (λ q. uses o k (op q)) (omega arith));
    written = holds-none 32 (written_from n op n) (λ o k. since-end n n (λ q. is_write (op q).mark && uses o k (op q)) (omega arith));
    stands = holds-none 64 (stands_from n op n) (λ a k. since-end n n (λ p. since n (p + 1) (λ q. edge (op p) (op q) a k)) (omega arith));
  }

  -- one more, p, which is operation i
  module _ (i : ℕ) (l : i < n) (p : Operation) (at : op i ≡ p) (met : Sweep) (s : Swept n op (i + 1) met) where
    used_step : (o k : ℕ) → used_from n op i o k ≡ (used_from n op (i + 1) o k || uses o k p)
    used_step o k = since-step n i (λ q. uses o k (op q)) l ∙ ap (λ (q : Operation). used_from n op (i + 1) o k || uses o k q) at

    written_step : (o k : ℕ) → written_from n op i o k ≡ (written_from n op (i + 1) o k || (is_write p.mark && uses o k p))
    written_step o k =
        since-step n i (λ q. is_write (op q).mark && uses o k (op q)) l
        ∙ ap (λ (q : Operation). written_from n op (i + 1) o k || (is_write q.mark && uses o k q)) at

    stands-step : (a k : ℕ) → stands_from n op i a k ≡ (stands_from n op (i + 1) a k || since n (i + 1) (λ q. edge p (op q) a k))
    stands-step a k =
        since-step n i (λ x. since n (x + 1) (λ q. edge (op x) (op q) a k)) l
        ∙ ap (λ (x : Operation). stands_from n op (i + 1) a k || since n (i + 1) (λ q. edge x (op q) a k)) at

    -- one that does not count for the order adds nothing
    pub swept-gone : is_gone p ≡ true → Swept n op i met
    swept-gone h = record {
      users_long = s.users_long;
      writers_long = s.writers_long;
      rows_long = s.rows_long;
      used = λ o k. s.used o k ∙ sym (used_step o k ∙ rw (h, or-false (used_from n op (i + 1) o k)));
      written = λ o k. s.written o k ∙ sym (written_step o k ∙ rw (h, and-false (is_write p.mark), or-false (written_from n op (i + 1) o k)));
      stands = λ a k. s.stands a k ∙ sym (stands-step a k ∙ rw (ties-gone n op (i + 1) p a k h, or-false (stands_from n op (i + 1) a k)));
    }

    module _ (live : is_gone p ≡ false) where
      abbrev a : ℕ
      a = p.responsible

      abbrev o : ℕ
      o = p.object

      a_small : a < 64
      a_small = (kept_small p live).0

      o-small : o < 32
      o-small = (kept_small p live).1

      tied_is : (k : ℕ) → mem (cond (is_write p.mark) (get_or met.users o 0) (get_or met.writers o 0)) k
          ≡ cond (is_write p.mark) (used_from n op (i + 1) o k) (written_from n op (i + 1) o k)
      tied_is k = by-mark (is_write p.mark)
        where
          by-mark : (b : Bool) → mem (cond b (get_or met.users o 0) (get_or met.writers o 0)) k ≡ cond b (used_from n op (i + 1) o k) (written_from n op (i + 1) o k)
          by-mark true = s.used o k
          by-mark false = s.written o k

      writers-more : (k : ℕ) (b : Bool) → mem (cond b (inserted (get_or met.writers o 0) a) (get_or met.writers o 0)) k ≡ (written_from n op (i + 1) o k || (b && eqb k a))
      writers-more k true = mem-inserted (get_or met.writers o 0) a k a_small ∙ ap (λ (b : Bool). b || eqb k a) (s.written o k)
      writers-more k false = s.written o k ∙ sym (or-false (written_from n op (i + 1) o k))

      -- any other is added to those of its object, and they, but for itself, to its transaction's row
      pub swept-live : (tied others u w : ℕ) → tied ≡ cond (is_write p.mark) (get_or met.users o 0) (get_or met.writers o 0)
          → ((k : ℕ) → mem others k ≡ (mem tied k && not (eqb k a))) → u ≡ inserted (get_or met.users o 0) a
          → w ≡ cond (is_write p.mark) (inserted (get_or met.writers o 0) a) (get_or met.writers o 0)
          → Swept n op i (record { users = set met.users o u; writers = set met.writers o w; rows = set met.rows a (bit_or (get_or met.rows a 0) others) })
      swept-live tied others u w t r eu ew = record {
        users_long = length-set met.users o u ∙ s.users_long;
        writers_long = length-set met.writers o w ∙ s.writers_long;
        rows_long = length-set met.rows a (bit_or (get_or met.rows a 0) others) ∙ s.rows_long;
        used = holds-set met.users o u (used_from n op (i + 1)) (used_from n op i) s.used (omega (arith, s.users_long, o-small))
            (λ k. ap (λ (x : ℕ). mem x k) eu ∙ mem-inserted (get_or met.users o 0) a k a_small ∙ ap (λ (b : Bool). b || eqb k a) (s.used o k)
            ∙ sym (used_step o k ∙ rw (live, eq-eqb o o refl)))
            (λ y k e. sym (used_step y k ∙ rw (live, ne_eqb y o e, or-false (used_from n op (i + 1) y k))));
        written = holds-set met.writers o w (written_from n op (i + 1)) (written_from n op i) s.written (omega (arith, s.writers_long, o-small))
            (λ k. ap (λ (x : ℕ). mem x k) ew ∙ writers-more k (is_write p.mark) ∙ sym (written_step o k ∙ rw (live, eq-eqb o o refl)))
            (λ y k e. sym (written_step y k ∙ rw (live, ne_eqb y o e, and-false (is_write p.mark), or-false (written_from n op (i + 1) y k))));
        stands = holds-set met.rows a (bit_or (get_or met.rows a 0) others) (stands_from n op (i + 1)) (stands_from n op i) s.stands (omega (arith, s.rows_long, a_small))
            (λ k. mem-union (get_or met.rows a 0) others k
            ∙ ap₂ ◌||◌ (s.stands a k) (r k ∙ ap (λ (b : Bool). b && not (eqb k a)) (ap (λ (x : ℕ). mem x k) t ∙ tied_is k))
            ∙ sym (stands-step a k ∙ rw (ties-live n op (i + 1) p a k live, eq-eqb a a refl)))
            (λ y k e. sym (stands-step y k
            ∙ rw (ties-live n op (i + 1) p y k live, ne_eqb y a e, and-false (cond (is_write p.mark) (used_from n op (i + 1) o k) (written_from n op (i + 1) o k)), or-false (stands_from n op (i + 1) y k))));
      }

  -- all are met
  stands-all : (a k : ℕ) → stands_from n op 0 a k ≡ ties_of n op a k
  unfolding ties_of
  stands-all a k =
      together (stands_from n op 0 a k) (ties_of n op a k)
      (λ h.
      let w = since-elim n 0 (λ p. since n (p + 1) (λ q. edge (op p) (op q) a k)) h in
      let p = w.0 in
      let v = since-elim n (p + 1) (λ q. edge (op p) (op q) a k) w.3 in
      let q = v.0 in
      any-intro n (λ j. any_below j (λ i. edge (op i) (op j) a k)) q v.2 (any-intro q (λ i. edge (op i) (op q) a k) p (omega (arith, v.1)) v.3))
      (λ h.
      let w = any-elim n (λ j. any_below j (λ i. edge (op i) (op j) a k)) h in
      let q = w.0 in
      let v = any-elim q (λ i. edge (op i) (op q) a k) w.2 in
      let p = v.0 in
      since-intro n 0 (λ i. since n (i + 1) (λ j. edge (op i) (op j) a k)) p (omega arith) (omega (arith, w.1, v.1))
      (since-intro n (p + 1) (λ j. edge (op p) (op j) a k) q (omega (arith, v.1)) w.1 v.2))

  pub swept_all : (met : Sweep) → Swept n op 0 met → (a k : ℕ) → mem_at met.rows a k ≡ ties_of n op a k
  swept_all met s a k = s.stands a k ∙ stands-all a k
