-- What the words of a saga's own events say (★5): by where an event can stand in a word.
use Prim.Native.Nat.{ℕ, zero, suc, ◌+◌, ◌*◌, ◌≤◌, ◌<◌}
use native.Mathlib.Omega.{arith}
use mathlib.Core.Path.{◌≡◌, refl, sym, ap, subst, subst⁻¹, ◌∙◌}
use mathlib.Core.Bool.{Bool, true, false, not, ◌&&◌, ◌||◌}
use mathlib.Core.Logic.{◌⊎◌, inl, inr, ⊎_elim}
use mathlib.Core.List.{List, [], ◌∷◌, ◌++◌, append_assoc, append-nil}
use lib.Dec.{eqb, ltb}
use borrow.Author.Tests.{eq-eqb, eqb-true, lt-ltb, ne_eqb}
use Rattle.laws.proofs.Bools.{and_on, and-rest, clash, is-not, not_on, off-not, or_cases, or_left, or_off, or-rest, or_right}
use Rattle.terms.specs.declared.Event.{Event}
use Rattle.terms.specs.declared.Event.TheVariants.{Abort, Begin, Commit}
use Rattle.tables.specs.Accepted.{Well}
use Rattle.tables.specs.Sorts.{first_of, steps_of}
use Rattle.tables.specs.declared.Tables.{Tables}
use Rattle.tables.proofs.SagaLaws.{well-steps}
use Rattle.histories.specs.Histories.{history}
use Rattle.closing.specs.Demand.{Beginning, back_run, commits_of, whole_run}
use Rattle.closing.proofs.Acts.{mine-on}
use Rattle.acta.specs.SagaLemmas.{BackWord, SagaLemmas, SaidByWords, Undone, undoes}
use Rattle.acta.specs.SagaWords.{Word, back, between, failing, forth, is_own, own_word, whole, within}
use Rattle.acta.specs.Words.{Happens, aborted, aborts, began, begins, committed, commits, ended, occurs}
use Rattle.acta.proofs.Places.{cuts, heads, occurs-append}
use Rattle.acta.proofs.SagaRunsHold.{own-append, saga-run}
use Rattle.acta.proofs.WordParts.{Backward, at_front, at_head, back_any, back-begun, back_done, back_last, back_on, back-waits, backward-done, backward-none, commits-append, commits-word, forth-begun, forth-commits, forth-cut, forth-done, forth-on, forward, forward-begun, forward-on, front, front-aborted, front-begun, front-commits, front-done, in-front, in-neither, in-rear, nothing-before, of_word, only-mine, own-aborted, own-began, own-committed, own-cons, own_of, past, stands-before, to_the_end}

-- ---- a list whose own events are a beginning of a word

module _ (f n : ℕ) (1≤n : 1 ≤ n) (h w rest : List Event) (is_word : Word f n w) (begins_it : own_word f n h ++ rest ≡ w) where
  abbrev W : List Event
  W = own_word f n h

  zero_is : f + 0 ≡ f
  zero_is = omega arith

  saga-committed : (u : List Event) → committed (own_word f n u) f ≡ committed u f
  saga-committed u = subst (λ (z : ℕ). committed (own_word f n u) z ≡ committed u z) zero_is (own-committed f n 0 (omega arith) u)

  saga-aborted : (u : List Event) → aborted (own_word f n u) f ≡ aborted u f
  saga-aborted u = subst (λ (z : ℕ). aborted (own_word f n u) z ≡ aborted u z) zero_is (own-aborted f n 0 (omega arith) u)

  -- what occurs in h occurs in the word
  in-word : (g : Event → Bool) → occurs g W ≡ true → occurs g w ≡ true
  in-word g a = ap (occurs g) (sym begins_it) ∙ in-front g W rest a

  -- an own event of h stands in the word, behind the own events before it
  module _ (u : List Event) (e : Event) (at : Happens h u e) (mine-it : is_own f n e ≡ true) where
    there : w ≡ own_word f n u ++ (e ∷ (own_word f n at.0 ++ rest))
    there =
        sym begins_it
        ∙ ap (λ (l : List Event). own_word f n l ++ rest) at.1
        ∙ ap (λ (l : List Event). l ++ rest) (own-append f n u (e ∷ at.0) ∙ ap (λ (l : List Event). own_word f n u ++ l) (own-cons f n e at.0 mine-it))
        ∙ append_assoc (own_word f n u) (e ∷ own_word f n at.0) rest

  -- S begins first
  saga-begins-first : (u : List Event) (e : Event) → Happens h u e → is_own f n e ≡ true → begins f e ≡ false → began u f ≡ true
  unfolding occurs
  saga-begins-first u e at o b =
      sym (subst (λ (z : ℕ). began (own_word f n u) z ≡ began u z) zero_is (own-began f n 0 (omega arith) u))
      ∙ ⊎_elim
      (λ q. before (forth f n ++ (Commit f ∷ [])) q)
      (λ b. before ((forth f b.j ++ b.middle) ++ back f n b.j) b.is)
      (of_word f n w is_word)
    where
      it : eqb f f ≡ true → occurs (λ x. not (begins f x)) (Begin f ∷ []) ≡ false
      it e = rw e

      before : (y : List Event) → w ≡ (Begin f ∷ []) ++ y → began (own_word f n u) f ≡ true
      before y q =
          stands-before (λ x. not (begins f x)) (begins f) (Begin f ∷ []) y (own_word f n u) (own_word f n at.0 ++ rest) e (sym q ∙ there u e at o) (not_on (begins f e) b) (it (eq-eqb f f refl)) (at_head (begins f) (Begin f) [] (eq-eqb f f refl))

  begins-own : (k : ℕ) → k < 2 * n → (e : Event) → begins (f + k) e ≡ true → is_own f n e ≡ true
  begins-own k l e x = own_of f n (f + k) (mine-on f n k l) e (or_left (begins (f + k) e) (commits (f + k) e || aborts (f + k) e) x)

  commits-own : (k : ℕ) → k < 2 * n → (e : Event) → commits (f + k) e ≡ true → is_own f n e ≡ true
  commits-own k l e x = own_of f n (f + k) (mine-on f n k l) e (or_right (begins (f + k) e) (commits (f + k) e || aborts (f + k) e) (or_left (commits (f + k) e) (aborts (f + k) e) x))

  -- the word is the forward one, or one of the others
  by_word {ℓ} : {A : Type ℓ} → (w ≡ forward f n → A) → (Backward f n w → A) → A
  by_word x y = ⊎_elim x y (of_word f n w is_word)

  -- Lemma 10.1
  all-forth : committed h f ≡ true → W ≡ forward f n
  unfolding occurs
  all-forth c =
      let c' = saga-committed h ∙ c in
      by_word
      (λ q. to_the_end (commits f) W rest (Begin f ∷ forth f n) (Commit f) (begins_it ∙ q) c' (is-not (committed (forth f n) f) (λ x. let y = forth-done f n n f x in omega (arith, y.1, y.3))))
      (λ b. clash (in-word (commits f) c') (backward-none f n w b f (inl refl)))

  -- an undo that begins
  module _ (u : List Event) (e : Event) (i : ℕ) (l : 1 ≤ i) (r : i < n) (at : Happens h u e) (is : begins (f + (n + i)) e ≡ true) where
    abbrev v : List Event
    v = own_word f n at.0 ++ rest

    standing : w ≡ own_word f n u ++ (e ∷ v)
    standing = there u e at (begins-own (n + i) (omega arith) e is)

    begun-there : began w (f + (n + i)) ≡ true
    begun-there = ap (occurs (begins (f + (n + i)))) standing ∙ in-rear (begins (f + (n + i))) (own_word f n u) (e ∷ v) (at_head (begins (f + (n + i))) e v is)

    not-forward {ℓ} : {A : Type ℓ} → w ≡ forward f n → A
    not-forward q = clash begun-there (ap (λ (x : List Event). began x (f + (n + i))) q ∙ forward-begun f n (f + (n + i)) (omega arith))

    -- its step is one of the j
    low : (b : Backward f n w) → i ≤ b.j
    low b =
        ⊎_elim
        (λ a. clash a (front-begun f n w b (f + (n + i)) (omega arith)))
        (λ a. let x = back-begun f n b.j (f + (n + i)) a in omega (arith, x.2, x.3))
        (or_cases (began (front f n w b) (f + (n + i))) (began (back f n b.j) (f + (n + i)))
        (sym (occurs-append (begins (f + (n + i))) (front f n w b) (back f n b.j)) ∙ ap (occurs (begins (f + (n + i)))) (sym b.is) ∙ begun-there))

    behind-front : (b : Backward f n w) (g : Event → Bool) → occurs g (front f n w b) ≡ true → occurs g (own_word f n u) ≡ true
    behind-front b g x =
        stands-before (begins (f + (n + i))) g (front f n w b) (back f n b.j) (own_word f n u) v e (sym b.is ∙ standing) is (front-begun f n w b (f + (n + i)) (omega arith)) x

    undo-after-abort : aborted u f ≡ true
    undo-after-abort = sym (saga-aborted u) ∙ by_word (λ q. not-forward q) (λ b. behind-front b (aborts f) (front-aborted f n w b))

    undo-after-step : committed u (f + i) ≡ true
    undo-after-step = sym (own-committed f n i (omega arith) u) ∙ by_word (λ q. not-forward q) (λ b. behind-front b (commits (f + i)) (front-commits f n w b i l (low b)))

    undo-after-undo : suc i < n → committed h (f + (n + suc i)) ≡ true → committed u (f + (n + suc i)) ≡ true
    undo-after-undo s c =
        let t = f + (n + suc i) in
        sym (own-committed f n (n + suc i) (omega arith) u)
        ∙ by_word (λ q. not-forward q)
        (λ b.
        let d = in-word (commits t) (own-committed f n (n + suc i) (omega arith) h ∙ c) in
        let x = backward-done f n w b t d in
        let k : suc i ≤ b.j = ⊎_elim (λ y. omega (arith, x.2, y, b.few, s)) (λ y. omega (arith, x.2, y)) x.3 in
        let z = past-front b in
        ap (λ (y : List Event). committed y t) z.1 ∙ in-rear (commits t) (front f n w b) z.0 (back-waits f n b.j i z.0 v e k z.2 is))
      where
        past-front : (b : Backward f n w) → (m : List Event) × (own_word f n u ≡ front f n w b ++ m) × (back f n b.j ≡ m ++ (e ∷ v))
        past-front b =
            ⊎_elim
            (λ c. by c.0 c.1 c.2)
            (λ c. c)
            (cuts (own_word f n u) (e ∷ v) (front f n w b) (back f n b.j) (sym standing ∙ b.is))
          where
            by : (m : List Event) → front f n w b ≡ own_word f n u ++ m → e ∷ v ≡ m ++ back f n b.j → (m : List Event) × (own_word f n u ≡ front f n w b ++ m) × (back f n b.j ≡ m ++ (e ∷ v))
            by [] c d = ([], sym (append-nil (front f n w b) ∙ c ∙ append-nil (own_word f n u)), sym d)
            by (y ∷ m) c d =
                clash
                (ap (occurs (begins (f + (n + i)))) c
                ∙ in-rear (begins (f + (n + i))) (own_word f n u) (y ∷ m) (at_head (begins (f + (n + i))) y m (ap (begins (f + (n + i))) (sym (heads e y v (m ++ back f n b.j) d).0) ∙ is)))
                (front-begun f n w b (f + (n + i)) (omega arith))

  -- a step that begins: T(i+1) is no later than T(j+1), so T1 to T(i) stand before it
  step-after-step : (u : List Event) (e : Event) (i : ℕ) → 1 ≤ i → i < n → Happens h u e → begins (f + suc i) e ≡ true → committed u (f + i) ≡ true
  unfolding occurs
  step-after-step u e i l r at is =
      sym (own-committed f n i (omega arith) u)
      ∙ by_word
      (λ q.
      let c = forth-cut f n i (omega arith) in
      behind (c.0 ++ (Commit f ∷ [])) (q ∙ ap (λ (x : List Event). Begin f ∷ (x ++ (Commit f ∷ []))) c.1 ∙ ap (λ (x : List Event). Begin f ∷ x) (append_assoc (forth f i) c.0 (Commit f ∷ []))))
      (λ b.
      let c = forth-cut f b.j i (low b) in
      let m = b.middle in
      behind (c.0 ++ (m ++ back f n b.j))
      (b.is ∙ ap (λ (x : List Event). Begin f ∷ x)
      (append_assoc (forth f b.j) m (back f n b.j) ∙ ap (λ (x : List Event). x ++ (m ++ back f n b.j)) c.1 ∙ append_assoc (forth f i) c.0 (m ++ back f n b.j))))
    where
      tail : List Event
      tail = own_word f n at.0 ++ rest

      standing' : w ≡ own_word f n u ++ (e ∷ tail)
      standing' = there u e at (begins-own (suc i) (omega arith) e is)

      behind : (y : List Event) → w ≡ (Begin f ∷ forth f i) ++ y → committed (own_word f n u) (f + i) ≡ true
      behind y q =
          stands-before (begins (f + suc i)) (commits (f + i)) (Begin f ∷ forth f i) y (own_word f n u) tail e (sym q ∙ standing') is
          (or_off (eqb f (f + suc i)) (began (forth f i) (f + suc i)) (ne_eqb f (f + suc i) (λ d. absurd (omega arith)))
          (is-not (began (forth f i) (f + suc i)) (λ x. let y = forth-begun f n i (f + suc i) x in omega (arith, y.2, y.3))))
          (forth-commits f i i l (omega arith))

      low : (b : Backward f n w) → i ≤ b.j
      low b =
          let k = begins (f + suc i) in
          ⊎_elim
          (λ a. ⊎_elim
          (λ c. absurd (omega (arith, eqb-true f (f + suc i) c)))
          (λ c. ⊎_elim
          (λ d. let x = forth-begun f n b.j (f + suc i) d in omega (arith, x.2, x.3))
          (λ d. omega (arith, b.one-begins (f + suc i) d))
          (or_cases (occurs k (forth f b.j)) (occurs k b.middle) (sym (occurs-append k (forth f b.j) b.middle) ∙ c)))
          (or_cases (eqb f (f + suc i)) (occurs k (forth f b.j ++ b.middle)) a))
          (λ a. let x = back-begun f n b.j (f + suc i) a in absurd (omega (arith, x.1, x.3, r)))
          (or_cases (occurs k (front f n w b)) (occurs k (back f n b.j))
          (sym (occurs-append k (front f n w b) (back f n b.j)) ∙ ap (occurs k) (sym b.is ∙ standing') ∙ in-rear k (own_word f n u) (e ∷ tail) (at_head k e tail is)))

  -- a step that commits stands in front of the middle
  step-before-abort : (u : List Event) (e : Event) (i : ℕ) → 1 ≤ i → i ≤ n → Happens h u e → commits (f + i) e ≡ true → aborted u f ≡ false
  unfolding occurs
  step-before-abort u e i l r at is =
      let k = commits (f + i) in
      let tail = own_word f n at.0 ++ rest in
      let stands = there u e at (commits-own i (omega arith) e is) in
      sym (saga-aborted u)
      ∙ by_word
      (λ q. is-not (aborted (own_word f n u) f) (λ a. clash (ap (occurs (aborts f)) stands ∙ in-front (aborts f) (own_word f n u) (e ∷ tail) a) (ap (occurs (aborts f)) q ∙ forward-on f n f)))
      (λ b.
      nothing-before k (aborts f) (Begin f ∷ forth f b.j) (b.middle ++ back f n b.j) (own_word f n u) tail e
      (ap (λ (x : List Event). Begin f ∷ x) (sym (append_assoc (forth f b.j) b.middle (back f n b.j))) ∙ sym b.is ∙ stands) is
      (in-neither k b.middle (back f n b.j) (b.none-commits (f + i)) (is-not (occurs k (back f n b.j)) (λ x. let y = back_done f n b.j (f + i) x in omega (arith, y.1, y.3, r))))
      (forth-on f n b.j f))

  -- behind the abort of a step only the rest of a back word follows
  back-only : (u : List Event) (e : Event) (i : ℕ) → 1 ≤ i → i ≤ n → Happens h u e → aborted u (f + i) ≡ true → is_own f n e ≡ true → (aborts f e || undoes f n e) ≡ true
  unfolding occurs
  back-only u e i l r at a o = by w is_word refl
    where
      other : Event → Bool
      other x = not (aborts f x || undoes f n x)

      tail : List Event
      tail = own_word f n at.0 ++ rest

      gone : aborted (own_word f n u) (f + i) ≡ true
      gone = own-aborted f n i (omega arith) u ∙ a

      stands : w ≡ own_word f n u ++ (e ∷ tail)
      stands = there u e at o

      in-forth : (j : ℕ) → aborted (Begin f ∷ forth f j) (f + i) ≡ false
      in-forth j = forth-on f n j (f + i)

      undoing-on : (t k : ℕ) → 1 ≤ k → k < n → t ≡ f + (n + k) → (ltb (f + n) t && ltb t (f + 2 * n)) ≡ true
      undoing-on t k x y q = and_on (ltb (f + n) t) (ltb t (f + 2 * n)) (lt-ltb (f + n) t (omega arith)) (lt-ltb t (f + 2 * n) (omega arith))

      -- nothing else is in the undos' part
      none_other : (j : ℕ) → j < n → occurs other (back f n j) ≡ false
      none_other j b =
          is-not (occurs other (back f n j))
          (λ x.
          let y = back_any f n other j x in
          let k = undoing-on (f + (n + y.0)) y.0 y.1 (omega (arith, y.2, b)) refl in
          ⊎_elim (λ z. clash z (rw k)) (λ z. clash z (rw k)) (or_cases (other (Begin (f + (n + y.0)))) (other (Commit (f + (n + y.0)))) y.3))

      -- e stands in the part that comes behind the abort
      behind : (x y : List Event) (z : Event) → w ≡ x ++ (z ∷ y) → aborted x (f + i) ≡ false → occurs other y ≡ false → (aborts f e || undoes f n e) ≡ true
      behind x y z q clean none =
          let c = past (aborts (f + i)) (own_word f n u) (e ∷ tail) x (z ∷ y) (sym stands ∙ q) gone clean in
          off-not (aborts f e || undoes f n e) (is-not (other e) (λ d. in-the-rest c.0 c.1 c.2 d))
        where
          in-the-rest : (m : List Event) → own_word f n u ≡ x ++ m → z ∷ y ≡ m ++ (e ∷ tail) → other e ≡ true → ⊥
          in-the-rest [] k g d = clash gone (ap (occurs (aborts (f + i))) (k ∙ append-nil x) ∙ clean)
          in-the-rest (v ∷ m) k g d = clash (ap (occurs other) (heads z v y (m ++ (e ∷ tail)) g).1 ∙ in-rear other m (e ∷ tail) (at_head other e tail d)) none

      joins : (j : ℕ) (m y : List Event) → Begin f ∷ (forth f j ++ (m ++ y)) ≡ (Begin f ∷ (forth f j ++ m)) ++ y
      joins j m y = ap (λ (k : List Event). Begin f ∷ k) (sym (append_assoc (forth f j) m y))

      saga-only : eqb f (f + i) ≡ false
      saga-only = ne_eqb f (f + i) (λ q. absurd (omega arith))

      itself : eqb f f ≡ true
      itself = eq-eqb f f refl

      by : (x : List Event) → Word f n x → x ≡ w → (aborts f e || undoes f n e) ≡ true
      by x whole q = clash (ap (occurs (aborts (f + i))) stands ∙ in-front (aborts (f + i)) (own_word f n u) (e ∷ tail) gone) (sym (ap (occurs (aborts (f + i))) q) ∙ forward-on f n (f + i))
      by x (between j b) q = behind (Begin f ∷ forth f j) (back f n j) (Abort f) (sym q) (in-forth j) (none_other j b)
      by x (within j b) q =
          let m = Begin (f + suc j) ∷ Abort f ∷ [] in
          behind (Begin f ∷ (forth f j ++ m)) (back f n j) (Abort (f + suc j)) (sym q ∙ joins j m (Abort (f + suc j) ∷ back f n j))
          (in-neither (aborts (f + i)) (forth f j) m (forth-on f n j (f + i)) (or_off (eqb f (f + i)) false saga-only refl)) (none_other j b)
      by x (failing j b) q =
          let m = Begin (f + suc j) ∷ [] in
          behind (Begin f ∷ (forth f j ++ m)) (Abort f ∷ back f n j) (Abort (f + suc j)) (sym q ∙ joins j m (Abort (f + suc j) ∷ Abort f ∷ back f n j))
          (in-neither (aborts (f + i)) (forth f j) m (forth-on f n j (f + i)) refl) (or_off (other (Abort f)) (occurs other (back f n j)) (rw itself) (none_other j b))

  -- an aborted step is in no forward word, a commit of S in no other
  no-commit-then : (i : ℕ) → 1 ≤ i → i ≤ n → aborted h (f + i) ≡ true → committed h f ≡ false
  no-commit-then i l r a =
      by_word
      (λ q. clash (in-word (aborts (f + i)) (own-aborted f n i (omega arith) h ∙ a)) (ap (occurs (aborts (f + i))) q ∙ forward-on f n (f + i)))
      (λ b. is-not (committed h f) (λ c. clash (in-word (commits f) (saga-committed h ∙ c)) (backward-none f n w b f (inl refl))))

  never-aborts : (i : ℕ) → 1 ≤ i → i < n → aborted h (f + (n + i)) ≡ false
  unfolding occurs
  never-aborts i l r =
      let t = f + (n + i) in
      is-not (aborted h t)
      (λ a.
      let a' = in-word (aborts t) (own-aborted f n (n + i) (omega arith) h ∙ a) in
      by_word
      (λ q. clash a' (ap (occurs (aborts t)) q ∙ forward-on f n t))
      (λ b.
      clash (sym (ap (occurs (aborts t)) b.is) ∙ a')
      (in-neither (aborts t) (front f n w b) (back f n b.j)
      (at_front f n w b (aborts t) refl (forth-on f n b.j t) (is-not (aborted b.middle t) (λ x. ⊎_elim (λ y. omega (arith, y, l)) (λ y. omega (arith, y, l, b.few)) (b.two-abort t x))))
      (back_on f n b.j t))))

  no-abort-then : committed h (f + n) ≡ true → aborted h f ≡ false
  no-abort-then c =
      by_word
      (λ q. is-not (aborted h f) (λ a. clash (in-word (aborts f) (saga-aborted h ∙ a)) (ap (occurs (aborts f)) q ∙ forward-on f n f)))
      (λ b. clash (in-word (commits (f + n)) (own-committed f n n (omega arith) h ∙ c)) (backward-none f n w b (f + n) (inr (omega (arith, b.few), omega arith))))

  -- ---- Lemma 10.2 and Theorem 10.1

  module _ (gone : aborted h f ≡ true) (undone : Undone f n h) where
    gone-own : aborted W f ≡ true
    gone-own = saga-aborted h ∙ gone

    -- where steps were undone, the commit of C1 is the last event
    undone-all : (b : Backward f n w) (k : ℕ) → b.j ≡ suc k → W ≡ w
    unfolding occurs
    undone-all b k q =
        let one-step : 1 ≤ b.j = omega arith in
        let x = past (aborts f) W rest (Begin f ∷ forth f b.j) (b.middle ++ back f n b.j)
        (begins_it ∙ b.is ∙ ap (λ (l : List Event). Begin f ∷ l) (append_assoc (forth f b.j) b.middle (back f n b.j))) gone-own (no_abort b.j) in
        let first = ap (λ (l : List Event). committed l (f + 1)) x.1 ∙ in-front (commits (f + 1)) (Begin f ∷ forth f b.j) x.0 (there-first b.j one-step) in
        let last = undone.all 1 (omega arith) (omega (arith, b.few, one-step)) (sym (own-committed f n 1 (omega arith) h) ∙ first) in
        let z = back_last f n k in
        let whole_is : w ≡ (front f n w b ++ z.0) ++ (Commit (f + (n + 1)) ∷ []) =
        b.is ∙ ap (λ (l : List Event). front f n w b ++ l) (ap (back f n) q ∙ z.1) ∙ sym (append_assoc (front f n w b) z.0 (Commit (f + (n + 1)) ∷ [])) in
        to_the_end (commits (f + (n + 1))) W rest (front f n w b ++ z.0) (Commit (f + (n + 1))) (begins_it ∙ whole_is) (own-committed f n (n + 1) (omega (arith, b.few, one-step)) h ∙ last)
        (in-neither (commits (f + (n + 1))) (front f n w b) z.0
        (is-not (committed (front f n w b) (f + (n + 1))) (λ c. let y = front-done f n w b (f + (n + 1)) c in omega (arith, y.2, y.3, b.few))) z.2)
        ∙ sym whole_is
      where
        no_abort : (j : ℕ) → aborted (Begin f ∷ forth f j) f ≡ false
        no_abort j = forth-on f n j f

        there-first : (j : ℕ) → 1 ≤ j → committed (Begin f ∷ forth f j) (f + 1) ≡ true
        there-first j l = forth-commits f j 1 (omega arith) l

    -- a step that began and did not commit has aborted
    step-over : (i : ℕ) → 1 ≤ i → i ≤ n → began W (f + i) ≡ true → committed w (f + i) ≡ false → aborted W (f + i) ≡ true
    step-over i l r b c =
        let off = undone.no_step i l r in
        let over = off-not (ended h (f + i)) (and-rest (began h (f + i)) (not (ended h (f + i))) off (sym (own-began f n i (omega arith) h) ∙ b)) in
        own-aborted f n i (omega arith) h
        ∙ or-rest (committed h (f + i)) (aborted h (f + i)) over
        (is-not (committed h (f + i)) (λ d. clash (in-word (commits (f + i)) (own-committed f n i (omega arith) h ∙ d)) c))

    -- no step had committed: the last event is an abort
    to-the-last : (b : Backward f n w) → b.j ≡ 0 → W ≡ w
    unfolding forth back occurs
    to-the-last b z = ⊎_elim stopped (λ o. ⊎_elim torn broken o) (subst (λ (k : ℕ). BackWord f n k w) z b.kind)
      where
        stopped : w ≡ Begin f ∷ (forth f 0 ++ (Abort f ∷ back f n 0)) → W ≡ w
        stopped q = to_the_end (aborts f) W rest (Begin f ∷ []) (Abort f) (begins_it ∙ q) gone-own refl ∙ sym q

        torn : w ≡ Begin f ∷ (forth f 0 ++ (Begin (f + 1) ∷ Abort f ∷ Abort (f + 1) ∷ back f n 0)) → W ≡ w
        torn q =
            let x = past (aborts f) W rest (Begin f ∷ Begin (f + 1) ∷ []) (Abort f ∷ Abort (f + 1) ∷ []) (begins_it ∙ q) gone-own refl in
            let first = ap (λ (l : List Event). began l (f + 1)) x.1
            ∙ in-front (begins (f + 1)) (Begin f ∷ Begin (f + 1) ∷ []) x.0 (or_right (eqb f (f + 1)) (eqb (f + 1) (f + 1) || false) (or_left (eqb (f + 1) (f + 1)) false (eq-eqb (f + 1) (f + 1) refl))) in
            to_the_end (aborts (f + 1)) W rest (Begin f ∷ Begin (f + 1) ∷ Abort f ∷ []) (Abort (f + 1)) (begins_it ∙ q)
            (step-over 1 (omega arith) 1≤n first (backward-none f n w b (f + 1) (inr (omega (arith, z), omega arith))))
            (or_off (eqb f (f + 1)) false (ne_eqb f (f + 1) (λ e. absurd (omega arith))) refl)
            ∙ sym q

        broken : w ≡ Begin f ∷ (forth f 0 ++ (Begin (f + 1) ∷ Abort (f + 1) ∷ Abort f ∷ back f n 0)) → W ≡ w
        broken q =
            to_the_end (aborts f) W rest (Begin f ∷ Begin (f + 1) ∷ Abort (f + 1) ∷ []) (Abort f) (begins_it ∙ q) gone-own (or_off (eqb (f + 1) f) false (ne_eqb (f + 1) f (λ e. absurd (omega arith))) refl)
            ∙ sym q

    all_back : (j : ℕ) × (j < n) × BackWord f n j W
    all_back =
        by_word
        (λ q. clash (in-word (aborts f) gone-own) (ap (occurs (aborts f)) q ∙ forward-on f n f))
        (λ b. (b.j, b.few, subst⁻¹ (BackWord f n b.j) (by b b.j refl) b.kind))
      where
        by : (b : Backward f n w) (j : ℕ) → b.j ≡ j → W ≡ w
        by b zero q = to-the-last b q
        by b (suc k) q = undone-all b k q

  in_order : Beginning (commits_of f n h) (whole_run f n) ⊎ ((j : ℕ) × (j < n) × Beginning (commits_of f n h) (back_run f n j))
  in_order =
      ⊎_elim
      (λ q. inl (commits_of f n rest, split ∙ q))
      (λ (j, l, q). inr (j, l, (commits_of f n rest, split ∙ q)))
      (commits-word f n w 1≤n is_word)
    where
      split : commits_of f n h ++ commits_of f n rest ≡ commits_of f n w
      split = ap (λ (l : List ℕ). l ++ commits_of f n rest) (sym (only-mine f n h)) ∙ sym (commits-append f n W rest) ∙ ap (commits_of f n) begins_it

  lemmas : SagaLemmas f n h
  lemmas =
      record {
        whole_run = all-forth;
        back_run = all_back;
        saga_first = saga-begins-first;
        step_bcd = step-after-step;
        undo_wcd = λ u e i l s at is c. undo-after-undo u e i l (omega arith) at is s c;
        undo_bad = undo-after-abort;
        saga_ad = no-commit-then;
        step_wd = step-before-abort;
        undo_bcd = undo-after-step;
        undo_cmd = never-aborts;
        saga_scd = no-abort-then;
        only_back = back-only;
        order = in_order;
      }

-- of any list whose own events are a beginning of a word
pub from-words : SaidByWords
from-words tables h i l run = lemmas (first_of tables i) (steps_of tables i) l h run.word run.rest run.is_word run.begins_it

pub saga_lemmas : (tables : Tables) → Well tables → (es : List Event) (i : ℕ) → i < tables.sagas → SagaLemmas (first_of tables i) (steps_of tables i) (history tables es)
saga_lemmas tables well es i l = from-words tables (history tables es) i (well-steps tables well i l).0 (saga-run tables well es i l)
