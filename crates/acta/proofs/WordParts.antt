-- Where an event can stand in a word of a saga's own events (★5): in the steps' part, in the middle in which S aborts, in the undos' part.
use Prim.Native.Nat.{ℕ, zero, suc, ◌+◌, ◌*◌, ◌≤◌, ◌<◌}
use native.Mathlib.Omega.{arith}
use mathlib.Core.Path.{◌≡◌, refl, sym, ap, subst, subst⁻¹, ◌∙◌}
use mathlib.Core.Bool.{Bool, true, false, cond, ◌||◌}
use mathlib.Core.Logic.{◌⊎◌, inl, inr, ⊎_elim}
use mathlib.Core.List.{List, [], ◌∷◌, ◌++◌, append_assoc, append-nil}
use lib.Dec.{eqb}
use borrow.Author.Tests.{eq-eqb, eqb-true, ne_eqb}
use Rattle.laws.proofs.Bools.{bool_cases, clash, is-not, or_cases, or_left, or_off, or_right}
use Rattle.laws.proofs.Decisions.{same_or}
use Rattle.terms.specs.declared.Event.{Event}
use Rattle.terms.specs.declared.Event.TheVariants.{Abort, AbortOne, Begin, Commit, CommitOne, Delegate, Operation as Invoke, Spawn}
use Rattle.closing.specs.Demand.{back_run, commits_of, downs, mine, ups, whole_run}
use Rattle.closing.proofs.Acts.{mine-on}
use Rattle.acta.specs.SagaLemmas.{BackWord}
use Rattle.acta.specs.SagaWords.{Word, back, between, failing, forth, is_own, own_word, whole, within}
use Rattle.acta.specs.Words.{aborted, aborts, began, begins, committed, commits, occurs}
use Rattle.acta.proofs.Places.{cuts, heads, none_left, occurs-append}

-- ---- what stands in which part of a list

module _ (g : Event → Bool) where
  pub in-front : (a b : List Event) → occurs g a ≡ true → occurs g (a ++ b) ≡ true
  in-front a b e = occurs-append g a b ∙ or_left (occurs g a) (occurs g b) e

  pub in-rear : (a b : List Event) → occurs g b ≡ true → occurs g (a ++ b) ≡ true
  in-rear a b e = occurs-append g a b ∙ or_right (occurs g a) (occurs g b) e

  pub in-neither : (a b : List Event) → occurs g a ≡ false → occurs g b ≡ false → occurs g (a ++ b) ≡ false
  in-neither a b e d = occurs-append g a b ∙ or_off (occurs g a) (occurs g b) e d

  pub at_head : (e : Event) (v : List Event) → g e ≡ true → occurs g (e ∷ v) ≡ true
  unfolding occurs
  at_head e v h = or_left (g e) (occurs g v) h

  -- what occurs in a beginning of the list and not in its front reaches past the front
  pub past : (w rest x y : List Event) → w ++ rest ≡ x ++ y → occurs g w ≡ true → occurs g x ≡ false → (m : List Event) × (w ≡ x ++ m) × (y ≡ m ++ rest)
  past w rest x y q h gone =
      ⊎_elim
      (λ c. clash (ap (occurs g) c.1 ∙ in-front w c.0 h) gone)
      (λ c. c)
      (cuts w rest x y q)

  -- where it is the last event, the beginning is the whole
  pub to_the_end : (w rest x : List Event) (e : Event) → w ++ rest ≡ x ++ (e ∷ []) → occurs g w ≡ true → occurs g x ≡ false → w ≡ x ++ (e ∷ [])
  to_the_end w rest x e q h gone =
      let c = past w rest x (e ∷ []) q h gone in
      c.1 ∙ ap (λ (l : List Event). x ++ l) (by c.0 c.2 c.1)
    where
      ends : (m : List Event) → [] ≡ m ++ rest → m ≡ []
      ends [] d = refl
      ends (y ∷ m) d = absurd (none_left y (m ++ rest) d)

      by : (m : List Event) → e ∷ [] ≡ m ++ rest → w ≡ x ++ m → m ≡ e ∷ []
      by [] d k = clash h (ap (occurs g) (k ∙ append-nil x) ∙ gone)
      by (y ∷ m) d k =
          let b = heads e y [] (m ++ rest) d in
          ap (λ (z : Event). z ∷ m) (sym b.0) ∙ ap (λ (l : List Event). e ∷ l) (ends m b.1)

-- e stands behind a in the list x ++ y
module _ (k g : Event → Bool) (x y a v : List Event) (e : Event) (q : x ++ y ≡ a ++ (e ∷ v)) (is : k e ≡ true) where
  -- it is not in x, so all of x stands before it
  pub stands-before : occurs k x ≡ false → occurs g x ≡ true → occurs g a ≡ true
  stands-before gone h = ⊎_elim (λ c. by c.0 c.1 c.2) (λ c. ap (occurs g) c.1 ∙ in-front g x c.0 h) (cuts a (e ∷ v) x y (sym q))
    where
      by : (m : List Event) → x ≡ a ++ m → e ∷ v ≡ m ++ y → occurs g a ≡ true
      by [] c d = sym (ap (occurs g) (c ∙ append-nil a)) ∙ h
      by (z ∷ m) c d = clash (ap (occurs k) c ∙ in-rear k a (z ∷ m) (at_head k z m (ap k (sym (heads e z v (m ++ y) d).0) ∙ is))) gone

  -- it is not in y, so nothing of y stands before it
  pub nothing-before : occurs k y ≡ false → occurs g x ≡ false → occurs g a ≡ false
  nothing-before gone h =
      ⊎_elim
      (λ c. is-not (occurs g a) (λ b. clash (ap (occurs g) c.1 ∙ in-front g a c.0 b) h))
      (λ c. clash (ap (occurs k) c.2 ∙ in-rear k c.0 (e ∷ v) (at_head k e v is)) gone)
      (cuts a (e ∷ v) x y (sym q))

  there_is : occurs k (x ++ y) ≡ true
  there_is = ap (occurs k) q ∙ in-rear k a (e ∷ v) (at_head k e v is)

-- ---- the steps' part of a word, and the undos'

alone : (b : Bool) → (b || false) ≡ true → b ≡ true
alone true h = refl
alone false h = h

module _ (f : ℕ) where
  forth-any : (g : Event → Bool) (j : ℕ) → occurs g (forth f j) ≡ true → (i : ℕ) × (1 ≤ i) × (i ≤ j) × ((g (Begin (f + i)) || g (Commit (f + i))) ≡ true)
  unfolding forth occurs
  forth-any g zero h = clash h refl
  forth-any g (suc j) h =
      ⊎_elim
      (λ a. let w = forth-any g j a in (w.0, w.1, omega (arith, w.2), w.3))
      (λ a. (suc j, omega arith, omega arith, two (g (Begin (f + suc j))) (g (Commit (f + suc j))) a))
      (or_cases (occurs g (forth f j)) (occurs g (Begin (f + suc j) ∷ Commit (f + suc j) ∷ []))
      (sym (occurs-append g (forth f j) (Begin (f + suc j) ∷ Commit (f + suc j) ∷ [])) ∙ h))
    where
      two : (a b : Bool) → (a || (b || false)) ≡ true → (a || b) ≡ true
      two true b h = refl
      two false b h = alone b h

  pub forth-commits : (j i : ℕ) → 1 ≤ i → i ≤ j → committed (forth f j) (f + i) ≡ true
  unfolding forth occurs
  forth-commits zero i l r = absurd (omega arith)
  forth-commits (suc j) i l r =
      same_or i (suc j)
      (λ e. in-rear (commits (f + i)) (forth f j) (Begin (f + suc j) ∷ Commit (f + suc j) ∷ []) (or_left (eqb (f + suc j) (f + i)) false (eq-eqb (f + suc j) (f + i) (ap (λ (z : ℕ). f + z) (sym e)))))
      (λ e. in-front (commits (f + i)) (forth f j) (Begin (f + suc j) ∷ Commit (f + suc j) ∷ []) (forth-commits j i l (omega (arith, r, e))))

  -- the first i of j steps
  pub forth-cut : (j i : ℕ) → i ≤ j → (r : List Event) × (forth f j ≡ forth f i ++ r)
  unfolding forth
  forth-cut zero i l = let e : i ≡ 0 = omega arith in ([], subst⁻¹ (λ (z : ℕ). [] ≡ forth f z ++ []) e refl)
  forth-cut (suc j) i l =
      same_or i (suc j)
      (λ e. ([], subst⁻¹ (λ (z : ℕ). forth f (suc j) ≡ forth f z ++ []) e (sym (append-nil (forth f (suc j))))))
      (λ e.
      let c = forth-cut j i (omega (arith, l, e)) in
      let s = Begin (f + suc j) ∷ Commit (f + suc j) ∷ [] in
      (c.0 ++ s, ap (λ (x : List Event). x ++ s) c.1 ∙ append_assoc (forth f i) c.0 s))

  module _ (n : ℕ) where
    pub back_any : (g : Event → Bool) (j : ℕ) → occurs g (back f n j) ≡ true → (i : ℕ) × (1 ≤ i) × (i ≤ j) × ((g (Begin (f + (n + i))) || g (Commit (f + (n + i)))) ≡ true)
    unfolding back occurs
    back_any g zero h = clash h refl
    back_any g (suc j) h =
        ⊎_elim
        (λ a. (suc j, omega arith, omega arith, or_left (g (Begin (f + (n + suc j)))) (g (Commit (f + (n + suc j)))) a))
        (λ a. ⊎_elim
        (λ b. (suc j, omega arith, omega arith, or_right (g (Begin (f + (n + suc j)))) (g (Commit (f + (n + suc j)))) b))
        (λ b. let w = back_any g j b in (w.0, w.1, omega (arith, w.2), w.3))
        (or_cases (g (Commit (f + (n + suc j)))) (occurs g (back f n j)) a))
        (or_cases (g (Begin (f + (n + suc j)))) (g (Commit (f + (n + suc j))) || occurs g (back f n j)) h)

    -- C(i) begins behind the commit of C(i+1)
    pub back-waits : (j i : ℕ) (a v : List Event) (e : Event) → suc i ≤ j → back f n j ≡ a ++ (e ∷ v) → begins (f + (n + i)) e ≡ true → committed a (f + (n + suc i)) ≡ true
    unfolding back occurs
    back-waits zero i a v e l q is = absurd (omega arith)
    back-waits (suc j) i [] v e l q is =
        let b = heads (Begin (f + (n + suc j))) e (Commit (f + (n + suc j)) ∷ back f n j) v q in
        absurd (omega (arith, l, eqb-true (f + (n + suc j)) (f + (n + i)) (ap (begins (f + (n + i))) b.0 ∙ is)))
    back-waits (suc j) i (x ∷ []) v e l q is =
        let b = heads (Begin (f + (n + suc j))) x (Commit (f + (n + suc j)) ∷ back f n j) (e ∷ v) q in
        let c = heads (Commit (f + (n + suc j))) e (back f n j) v b.1 in
        clash (ap (begins (f + (n + i))) c.0 ∙ is) refl
    back-waits (suc j) i (x ∷ y ∷ a) v e l q is =
        let b = heads (Begin (f + (n + suc j))) x (Commit (f + (n + suc j)) ∷ back f n j) (y ∷ (a ++ (e ∷ v))) q in
        let c = heads (Commit (f + (n + suc j))) y (back f n j) (a ++ (e ∷ v)) b.1 in
        let t = f + (n + suc i) in
        or_right (commits t x) (commits t y || committed a t)
        (same_or i j
        (λ s. or_left (commits t y) (committed a t) (ap (commits t) (sym c.0) ∙ eq-eqb (f + (n + suc j)) t (ap (λ (z : ℕ). f + (n + suc z)) (sym s))))
        (λ s. or_right (commits t y) (committed a t) (back-waits j i a v e (omega (arith, l, s)) c.1 is)))

    -- the commit of C1 is the last
    pub back_last : (j : ℕ) → (r : List Event) × (back f n (suc j) ≡ r ++ (Commit (f + (n + 1)) ∷ [])) × (committed r (f + (n + 1)) ≡ false)
    unfolding back occurs
    back_last zero = (Begin (f + (n + 1)) ∷ [], refl, refl)
    back_last (suc j) =
        let w = back_last j in
        let t = f + (n + suc (suc j)) in
        (Begin t ∷ Commit t ∷ w.0, ap (λ (l : List Event). Begin t ∷ Commit t ∷ l) w.1, or_off (eqb t (f + (n + 1))) (committed w.0 (f + (n + 1))) (ne_eqb t (f + (n + 1)) (λ e. absurd (omega arith))) w.2)

-- ---- the words

-- one in which S aborts: behind T(j) a middle in which S does so, and T(j+1) at most begins and aborts
pub record Backward (f n : ℕ) (w : List Event) : Type 0 where
  pub j : ℕ
  pub few : j < n
  pub middle : List Event
  pub is : w ≡ (Begin f ∷ (forth f j ++ middle)) ++ back f n j
  pub saga_aborts : aborted middle f ≡ true
  pub none-commits : (t : ℕ) → committed middle t ≡ false
  pub one-begins : (t : ℕ) → began middle t ≡ true → t ≡ f + suc j
  pub two-abort : (t : ℕ) → aborted middle t ≡ true → (t ≡ f) ⊎ (t ≡ f + suc j)
  pub kind : BackWord f n j w

module _ (f n : ℕ) where
  joined : (j : ℕ) (m : List Event) → Begin f ∷ (forth f j ++ (m ++ back f n j)) ≡ (Begin f ∷ (forth f j ++ m)) ++ back f n j
  joined j m = ap (λ (l : List Event). Begin f ∷ l) (sym (append_assoc (forth f j) m (back f n j)))

  pub of_word : (w : List Event) → Word f n w → (w ≡ Begin f ∷ (forth f n ++ (Commit f ∷ []))) ⊎ Backward f n w
  unfolding occurs
  of_word w whole = inl refl
  of_word w (between j l) =
      inr
      (record {
        j = j;
        few = l;
        middle = Abort f ∷ [];
        is = joined j (Abort f ∷ []);
        saga_aborts = or_left (eqb f f) false (eq-eqb f f refl);
        none-commits = λ t. refl;
        one-begins = λ t h. clash h refl;
        two-abort = λ t h. inl (sym (eqb-true f t (alone (eqb f t) h)));
        kind = inl refl;
      })
  of_word w (within j l) =
      inr
      (record {
        j = j;
        few = l;
        middle = Begin (f + suc j) ∷ Abort f ∷ Abort (f + suc j) ∷ [];
        is = joined j (Begin (f + suc j) ∷ Abort f ∷ Abort (f + suc j) ∷ []);
        saga_aborts = or_left (eqb f f) (eqb (f + suc j) f || false) (eq-eqb f f refl);
        none-commits = λ t. refl;
        one-begins = λ t h. sym (eqb-true (f + suc j) t (alone (eqb (f + suc j) t) h));
        two-abort = λ t h. ⊎_elim (λ a. inl (sym (eqb-true f t a))) (λ a. inr (sym (eqb-true (f + suc j) t (alone (eqb (f + suc j) t) a)))) (or_cases (eqb f t) (eqb (f + suc j) t || false) h);
        kind = inr (inl refl);
      })
  of_word w (failing j l) =
      inr
      (record {
        j = j;
        few = l;
        middle = Begin (f + suc j) ∷ Abort (f + suc j) ∷ Abort f ∷ [];
        is = joined j (Begin (f + suc j) ∷ Abort (f + suc j) ∷ Abort f ∷ []);
        saga_aborts = or_right (eqb (f + suc j) f) (eqb f f || false) (or_left (eqb f f) false (eq-eqb f f refl));
        none-commits = λ t. refl;
        one-begins = λ t h. sym (eqb-true (f + suc j) t (alone (eqb (f + suc j) t) h));
        two-abort = λ t h. ⊎_elim (λ a. inr (sym (eqb-true (f + suc j) t a))) (λ a. inl (sym (eqb-true f t (alone (eqb f t) a)))) (or_cases (eqb (f + suc j) t) (eqb f t || false) h);
        kind = inr (inr refl);
      })

  -- who begins, commits and aborts in the steps' part, and in the undos'
  pub forth-begun : (j t : ℕ) → began (forth f j) t ≡ true → (i : ℕ) × (1 ≤ i) × (i ≤ j) × (f + i ≡ t)
  forth-begun j t h = let w = forth-any f (begins t) j h in (w.0, w.1, w.2, eqb-true (f + w.0) t (alone (eqb (f + w.0) t) w.3))

  pub forth-done : (j t : ℕ) → committed (forth f j) t ≡ true → (i : ℕ) × (1 ≤ i) × (i ≤ j) × (f + i ≡ t)
  forth-done j t h = let w = forth-any f (commits t) j h in (w.0, w.1, w.2, eqb-true (f + w.0) t w.3)

  pub forth-on : (j t : ℕ) → aborted (forth f j) t ≡ false
  forth-on j t = is-not (aborted (forth f j) t) (λ h. clash (forth-any f (aborts t) j h).3 refl)

  pub back-begun : (j t : ℕ) → began (back f n j) t ≡ true → (i : ℕ) × (1 ≤ i) × (i ≤ j) × (f + (n + i) ≡ t)
  back-begun j t h = let w = back_any f n (begins t) j h in (w.0, w.1, w.2, eqb-true (f + (n + w.0)) t (alone (eqb (f + (n + w.0)) t) w.3))

  pub back_done : (j t : ℕ) → committed (back f n j) t ≡ true → (i : ℕ) × (1 ≤ i) × (i ≤ j) × (f + (n + i) ≡ t)
  back_done j t h = let w = back_any f n (commits t) j h in (w.0, w.1, w.2, eqb-true (f + (n + w.0)) t w.3)

  pub back_on : (j t : ℕ) → aborted (back f n j) t ≡ false
  back_on j t = is-not (aborted (back f n j) t) (λ h. clash (back_any f n (aborts t) j h).3 refl)

  -- ---- of the forward word

  abbrev pub forward : List Event
  forward = Begin f ∷ (forth f n ++ (Commit f ∷ []))

  pub forward-on : (t : ℕ) → aborted forward t ≡ false
  unfolding occurs
  forward-on t = in-neither (aborts t) (forth f n) (Commit f ∷ []) (forth-on n t) refl

  -- no undo begins
  pub forward-begun : (t : ℕ) → f + n < t → began forward t ≡ false
  unfolding occurs
  forward-begun t l =
      or_off (eqb f t) (began (forth f n ++ (Commit f ∷ [])) t) (ne_eqb f t (λ e. absurd (omega arith)))
      (in-neither (begins t) (forth f n) (Commit f ∷ []) (is-not (began (forth f n) t) (λ h. let w = forth-begun n t h in omega (arith, l, w.2, w.3))) refl)

  -- ---- of the others
  module _ (w : List Event) (b : Backward f n w) where
    abbrev j : ℕ
    j = b.j

    abbrev pub front : List Event
    front = Begin f ∷ (forth f j ++ b.middle)

    pub at_front : (g : Event → Bool) → g (Begin f) ≡ false → occurs g (forth f j) ≡ false → occurs g b.middle ≡ false → occurs g front ≡ false
    unfolding occurs
    at_front g x y z = or_off (g (Begin f)) (occurs g (forth f j ++ b.middle)) x (in-neither g (forth f j) b.middle y z)

    -- who commits: T1 to T(j) and C(j) to C1
    pub front-done : (t : ℕ) → committed front t ≡ true → (i : ℕ) × (1 ≤ i) × (i ≤ j) × (f + i ≡ t)
    unfolding occurs
    front-done t h =
        ⊎_elim (λ a. forth-done j t a) (λ a. clash a (b.none-commits t))
        (or_cases (committed (forth f j) t) (committed b.middle t) (sym (occurs-append (commits t) (forth f j) b.middle) ∙ h))

    pub backward-done : (t : ℕ) → committed w t ≡ true → (i : ℕ) × (1 ≤ i) × (i ≤ j) × ((f + i ≡ t) ⊎ (f + (n + i) ≡ t))
    backward-done t h =
        ⊎_elim
        (λ a. let x = front-done t a in (x.0, x.1, x.2, inl x.3))
        (λ a. let x = back_done j t a in (x.0, x.1, x.2, inr x.3))
        (or_cases (committed front t) (committed (back f n j) t) (sym (occurs-append (commits t) front (back f n j)) ∙ ap (occurs (commits t)) (sym b.is) ∙ h))

    pub backward-none : (t : ℕ) → (t ≡ f) ⊎ ((f + j < t) × (t ≤ f + n)) → committed w t ≡ false
    backward-none t o =
        is-not (committed w t)
        (λ h.
        let x = backward-done t h in
        let l = b.few in
        ⊎_elim
        (λ e. ⊎_elim (λ a. omega (arith, x.1, x.2, e, a, l)) (λ a. omega (arith, x.1, x.2, e, a, l)) x.3)
        (λ (y, z). ⊎_elim (λ a. omega (arith, x.1, x.2, y, z, a, l)) (λ a. omega (arith, x.1, x.2, y, z, a, l)) x.3) o)

    -- no undo begins in front
    pub front-begun : (t : ℕ) → f + n < t → began front t ≡ false
    front-begun t l =
        at_front (begins t) (ne_eqb f t (λ e. absurd (omega arith)))
        (is-not (began (forth f j) t) (λ h. let x = forth-begun j t h in omega (arith, l, b.few, x.2, x.3)))
        (is-not (began b.middle t) (λ h. omega (arith, l, b.few, b.one-begins t h)))

    pub front-aborted : aborted front f ≡ true
    unfolding occurs
    front-aborted = in-rear (aborts f) (forth f j) b.middle b.saga_aborts

    pub front-commits : (i : ℕ) → 1 ≤ i → i ≤ j → committed front (f + i) ≡ true
    unfolding occurs
    front-commits i l r = in-front (commits (f + i)) (forth f j) b.middle (forth-commits f j i l r)

-- ---- own events and all events

module _ (f n : ℕ) where
  pub own_of : (t : ℕ) → mine f n t ≡ true → (e : Event) → (begins t e || (commits t e || aborts t e)) ≡ true → is_own f n e ≡ true
  own_of t m (Begin x) h = subst⁻¹ (λ (z : ℕ). mine f n z ≡ true) (eqb-true x t (alone (eqb x t) h)) m
  own_of t m (Commit x) h = subst⁻¹ (λ (z : ℕ). mine f n z ≡ true) (eqb-true x t (alone (eqb x t) h)) m
  own_of t m (Abort x) h = subst⁻¹ (λ (z : ℕ). mine f n z ≡ true) (eqb-true x t h) m
  own_of t m (Invoke x o k) h = clash h refl
  own_of t m (Delegate x r q) h = clash h refl
  own_of t m (CommitOne x q) h = clash h refl
  own_of t m (AbortOne x q) h = clash h refl
  own_of t m (Spawn x c) h = subst⁻¹ (λ (z : ℕ). mine f n z ≡ true) (eqb-true c t (alone (eqb c t) h)) m

  own-occurs : (g : Event → Bool) → ((e : Event) → g e ≡ true → is_own f n e ≡ true) → (h : List Event) → occurs g (own_word f n h) ≡ occurs g h
  unfolding own_word occurs
  own-occurs g go [] = refl
  own-occurs g go (e ∷ h) =
      bool_cases (is_own f n e)
      (λ b. rw b (ap (λ (x : Bool). g e || x) (own-occurs g go h)))
      (λ b. let c = is-not (g e) (λ x. clash (go e x) b) in rw (b, c) (own-occurs g go h))

  pub own-cons : (e : Event) (v : List Event) → is_own f n e ≡ true → own_word f n (e ∷ v) ≡ e ∷ own_word f n v
  unfolding own_word
  own-cons e v b = rw b

  module _ (k : ℕ) (low : k < 2 * n) where
    pub own-began : (h : List Event) → began (own_word f n h) (f + k) ≡ began h (f + k)
    own-began h = own-occurs (begins (f + k)) (λ e x. own_of (f + k) (mine-on f n k low) e (or_left (begins (f + k) e) (commits (f + k) e || aborts (f + k) e) x)) h

    pub own-committed : (h : List Event) → committed (own_word f n h) (f + k) ≡ committed h (f + k)
    own-committed h =
        own-occurs (commits (f + k))
        (λ e x. own_of (f + k) (mine-on f n k low) e (or_right (begins (f + k) e) (commits (f + k) e || aborts (f + k) e) (or_left (commits (f + k) e) (aborts (f + k) e) x))) h

    pub own-aborted : (h : List Event) → aborted (own_word f n h) (f + k) ≡ aborted h (f + k)
    own-aborted h =
        own-occurs (aborts (f + k))
        (λ e x. own_of (f + k) (mine-on f n k low) e (or_right (begins (f + k) e) (commits (f + k) e || aborts (f + k) e) (or_right (commits (f + k) e) (aborts (f + k) e) x))) h

pub aborts-mine : (f n t : ℕ) → mine f n t ≡ true → (e : Event) → aborts t e ≡ true → is_own f n e ≡ true
aborts-mine f n t m e x = own_of f n t m e (or_right (begins t e) (commits t e || aborts t e) (or_right (commits t e) (aborts t e) x))

pub commits-mine : (f n t : ℕ) → mine f n t ≡ true → (e : Event) → commits t e ≡ true → is_own f n e ≡ true
commits-mine f n t m e x = own_of f n t m e (or_right (begins t e) (commits t e || aborts t e) (or_left (commits t e) (aborts t e) x))

-- ---- the commits in their order

module _ (f n : ℕ) where
  pub only-mine : (h : List Event) → commits_of f n (own_word f n h) ≡ commits_of f n h
  unfolding own_word commits_of
  only-mine [] = refl
  only-mine (Begin t ∷ h) = bool_cases (mine f n t) (λ b. rw b (only-mine h)) (λ b. rw b (only-mine h))
  only-mine (Commit t ∷ h) = bool_cases (mine f n t) (λ b. rw (b, b) (ap (λ (l : List ℕ). t ∷ l) (only-mine h))) (λ b. rw b (only-mine h))
  only-mine (Abort t ∷ h) = bool_cases (mine f n t) (λ b. rw b (only-mine h)) (λ b. rw b (only-mine h))
  only-mine (Invoke t o m ∷ h) = only-mine h
  only-mine (Delegate t r q ∷ h) = only-mine h
  only-mine (CommitOne t q ∷ h) = only-mine h
  only-mine (AbortOne t q ∷ h) = only-mine h
  only-mine (Spawn m c ∷ h) = bool_cases (mine f n c) (λ b. rw b (only-mine h)) (λ b. rw b (only-mine h))

  pub commits-append : (u v : List Event) → commits_of f n (u ++ v) ≡ commits_of f n u ++ commits_of f n v
  unfolding commits_of
  commits-append [] v = refl
  commits-append (Begin t ∷ u) v = commits-append u v
  commits-append (Commit t ∷ u) v = bool_cases (mine f n t) (λ b. rw b (ap (λ (l : List ℕ). t ∷ l) (commits-append u v))) (λ b. rw b (commits-append u v))
  commits-append (Abort t ∷ u) v = commits-append u v
  commits-append (Invoke t o m ∷ u) v = commits-append u v
  commits-append (Delegate t r q ∷ u) v = commits-append u v
  commits-append (CommitOne t q ∷ u) v = commits-append u v
  commits-append (AbortOne t q ∷ u) v = commits-append u v
  commits-append (Spawn m c ∷ u) v = commits-append u v

  commits-forth : (j : ℕ) → j ≤ n → commits_of f n (forth f j) ≡ ups f j
  unfolding commits_of forth ups
  commits-forth zero l = refl
  commits-forth (suc j) l =
      commits-append (forth f j) (Begin (f + suc j) ∷ Commit (f + suc j) ∷ [])
      ∙ ap (λ (b : Bool). commits_of f n (forth f j) ++ cond b ((f + suc j) ∷ []) []) (mine-on f n (suc j) (omega arith))
      ∙ ap (λ (l : List ℕ). l ++ ((f + suc j) ∷ [])) (commits-forth j (omega arith))

  commits-back : (j : ℕ) → j < n → commits_of f n (back f n j) ≡ downs f n j
  unfolding commits_of back downs
  commits-back zero l = refl
  commits-back (suc j) l =
      let t = f + (n + suc j) in
      ap (λ (b : Bool). cond b (t ∷ commits_of f n (back f n j)) (commits_of f n (back f n j))) (mine-on f n (n + suc j) (omega arith))
      ∙ ap (λ (l : List ℕ). t ∷ l) (commits-back j (omega arith))

  -- of a word
  commits-whole : 1 ≤ n → commits_of f n (Begin f ∷ (forth f n ++ (Commit f ∷ []))) ≡ whole_run f n
  unfolding commits_of whole_run
  commits-whole l =
      let q : f + 0 ≡ f = omega arith in
      commits-append (forth f n) (Commit f ∷ [])
      ∙ ap (λ (b : Bool). commits_of f n (forth f n) ++ cond b (f ∷ []) []) (subst (λ (z : ℕ). mine f n z ≡ true) q (mine-on f n 0 (omega arith)))
      ∙ ap (λ (l : List ℕ). l ++ (f ∷ [])) (commits-forth n (omega arith))

  commits-between : (j : ℕ) → j < n → commits_of f n (forth f j ++ back f n j) ≡ back_run f n j
  unfolding back_run
  commits-between j l =
      commits-append (forth f j) (back f n j)
      ∙ ap (λ (x : List ℕ). x ++ commits_of f n (back f n j)) (commits-forth j (omega arith))
      ∙ ap (λ (x : List ℕ). ups f j ++ x) (commits-back j l)

  -- the middle of a word has none
  pub commits-word : (w : List Event) → 1 ≤ n → Word f n w → (commits_of f n w ≡ whole_run f n) ⊎ ((j : ℕ) × (j < n) × (commits_of f n w ≡ back_run f n j))
  unfolding commits_of
  commits-word w l whole = inl (commits-whole l)
  commits-word w l (between j r) = inr (j, r, commits-append (forth f j) (Abort f ∷ back f n j) ∙ sym (commits-append (forth f j) (back f n j)) ∙ commits-between j r)
  commits-word w l (within j r) =
      inr (j, r, commits-append (forth f j) (Begin (f + suc j) ∷ Abort f ∷ Abort (f + suc j) ∷ back f n j) ∙ sym (commits-append (forth f j) (back f n j)) ∙ commits-between j r)
  commits-word w l (failing j r) =
      inr (j, r, commits-append (forth f j) (Begin (f + suc j) ∷ Abort (f + suc j) ∷ Abort f ∷ back f n j) ∙ sym (commits-append (forth f j) (back f n j)) ∙ commits-between j r)
