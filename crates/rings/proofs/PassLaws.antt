-- One pass over the operations, from the first up: who is reached is led to, and whoever was not missed has led on.
use Prim.Native.Nat.{ℕ, zero, suc, ◌+◌, ◌^◌, ◌≤◌, ◌<◌}
use native.Mathlib.Numerals.{add-one}
use native.Mathlib.Omega.{arith}
use mathlib.Core.Path.{◌≡◌, refl, sym, ap, ◌∙◌, subst, subst⁻¹}
use mathlib.Core.Bool.{Bool, true, false, cond, not, ◌&&◌, ◌||◌, or-false}
use mathlib.Core.Logic.{◌≢◌, ◌⊎◌, inl, inr, ⊎_elim}
use lib.Dec.{eqb}
use borrow.Author.Tests.{eqb-true, eq-eqb, ne_eqb}
use Rattle.laws.proofs.Bools.{or_left, or_right, or_cases, off-or, and_on, on_and, not_on, on-not, is-not, clash, bool_cases}
use Rattle.laws.proofs.Decisions.{same_or}
use Rattle.terms.specs.Events.{is_write}
use Rattle.sets.specs.Sets.{mem, inserted}
use Rattle.sets.proofs.SetLaws.{mem-empty, mem-inserted, inserted-in, union-le}
use Rattle.ties.specs.declared.Operation.{Operation}
use Rattle.ties.specs.Ties.{is_gone, ties_of}
use Rattle.ties.proofs.TieLaws.{Counted, between, kept_small, ties-on}
use Rattle.rings.specs.Passes.{crosses, hits, passed, pass_to, Led}
use Rattle.rings.specs.declared.Pass.{Pass}

-- what one pass has reached from start and from a set, and whom it passed before they were reached
pub record Passed (R : ℕ → ℕ → Bool) (start from reached missed : ℕ) : Type 0 where
  pub more : from ≤ reached
  pub only : (k : ℕ) → mem reached k ≡ true → Led R start from k
  pub kept : (k : ℕ) → mem from k ≡ true → mem reached k ≡ true
  pub fresh : (k : ℕ) → mem from k ≡ true → mem missed k ≡ false
  pub first : (k : ℕ) → R start k ≡ true → mem reached k ≡ true
  pub done : (a k : ℕ) → mem missed a ≡ false → R a k ≡ true → mem reached k ≡ true

-- ---- a set with one more, if so

pub mem-some : (so : Bool) (x o k : ℕ) → o < 64 → mem (cond so (inserted x o) x) k ≡ (mem x k || (so && eqb k o))
mem-some true x o k h = mem-inserted x o k h
mem-some false x o k h = sym (or-false (mem x k))

module _ (so : Bool) (x o : ℕ) (h : o < 64) where
  pub some-cases {ℓ} : {A : Type ℓ} (k : ℕ) → mem (cond so (inserted x o) x) k ≡ true → (mem x k ≡ true → A) → (so ≡ true → k ≡ o → A) → A
  some-cases k e f g =
      ⊎_elim f (λ b. let w = on_and so (eqb k o) b in g w.0 (eqb-true k o w.1)) (or_cases (mem x k) (so && eqb k o) (sym (mem-some so x o k h) ∙ e))

  pub some-old : (k : ℕ) → mem x k ≡ true → mem (cond so (inserted x o) x) k ≡ true
  some-old k e = mem-some so x o k h ∙ or_left (mem x k) (so && eqb k o) e

  pub some-new : so ≡ true → mem (cond so (inserted x o) x) o ≡ true
  some-new e = mem-some so x o o h ∙ or_right (mem x o) (so && eqb o o) (and_on so (eqb o o) e (eq-eqb o o refl))

  pub some-off : (k : ℕ) → mem (cond so (inserted x o) x) k ≡ false → mem x k ≡ false
  some-off k e = (off-or (mem x k) (so && eqb k o) (sym (mem-some so x o k h) ∙ e)).0

-- ---- two operations in conflict, neither aborted

pub record Tie (op : ℕ → Operation) (p q : ℕ) : Type 0 where
  pub earlier : p < q
  pub here : is_gone (op p) ≡ false
  pub there : is_gone (op q) ≡ false
  pub same : (op p).object ≡ (op q).object
  pub write : (is_write (op p).mark || is_write (op q).mark) ≡ true

pub tie-of : (op : ℕ → Operation) (p q : ℕ) → p < q → Counted (op p) (op q) → Tie op p q
tie-of op p q l w =
    let c = on_and (eqb (op p).object (op q).object) (is_write (op p).mark || is_write (op q).mark) w.conflicts in
    record { earlier = l; here = w.here; there = w.there; same = eqb-true (op p).object (op q).object c.0; write = c.1 }

pub tied : (n : ℕ) (op : ℕ → Operation) (p q : ℕ) → Tie op p q → q < n → (op p).responsible ≢ (op q).responsible
    → ties_of n op (op p).responsible (op q).responsible ≡ true
tied n op p q t l o =
    ties-on n op (op p).responsible (op q).responsible
    (record {
      p = p;
      q = q;
      earlier = t.earlier;
      below = l;
      tie =
          record {
            conflicts = and_on (eqb (op p).object (op q).object) (is_write (op p).mark || is_write (op q).mark) (eq-eqb (op p).object (op q).object t.same) t.write;
            here = t.here;
            there = t.there;
            other = o;
          };
      first = refl;
      second = refl;
    })

-- ---- objects used and written by some, so far

module _ (op : ℕ → Operation) where
  -- who used o below i
  pub record Source (who : ℕ → Bool) (i o : ℕ) : Type 0 where
    pub p : ℕ
    pub below : p < i
    pub live : is_gone (op p) ≡ false
    pub on : (op p).object ≡ o
    pub by : who (op p).responsible ≡ true

  pub record Writer (who : ℕ → Bool) (i o : ℕ) : Type 0 where
    pub p : ℕ
    pub below : p < i
    pub live : is_gone (op p) ≡ false
    pub on : (op p).object ≡ o
    pub by : who (op p).responsible ≡ true
    pub write : is_write (op p).mark ≡ true

  module _ (who : ℕ → Bool) (i o : ℕ) where
    pub source_more : Source who i o → Source who (i + 1) o
    source_more s = record { p = s.p; below = omega (arith, s.below); live = s.live; on = s.on; by = s.by }

    pub writer-more : Writer who i o → Writer who (i + 1) o
    writer-more s = record { p = s.p; below = omega (arith, s.below); live = s.live; on = s.on; by = s.by; write = s.write }

  module _ (who whom : ℕ → Bool) (f : (k : ℕ) → who k ≡ true → whom k ≡ true) (i o : ℕ) where
    pub source-grown : Source who i o → Source whom i o
    source-grown s = record { p = s.p; below = s.below; live = s.live; on = s.on; by = f (op s.p).responsible s.by }

    pub writer-grown : Writer who i o → Writer whom i o
    writer-grown s = record { p = s.p; below = s.below; live = s.live; on = s.on; by = f (op s.p).responsible s.by; write = s.write }

  -- u and w hold the objects that some used and wrote below i
  pub record Sets (who : ℕ → Bool) (i u w : ℕ) : Type 0 where
    pub uses : (o : ℕ) → mem u o ≡ true → Source who i o
    pub writes : (o : ℕ) → mem w o ≡ true → Writer who i o

  -- operation p is in them
  pub record In (u w p : ℕ) : Type 0 where
    pub used : mem u (op p).object ≡ true
    pub written : is_write (op p).mark ≡ true → mem w (op p).object ≡ true

  abbrev pub cross : ℕ → ℕ → Operation → Bool
  cross u w q = crosses u w q.mark q.object

  module _ (who : ℕ → Bool) (i u w : ℕ) (s : Sets who i u w) (live : is_gone (op i) ≡ false) where
    pub crossed-by {ℓ} : {A : Type ℓ} → cross u w (op i) ≡ true → ((p : ℕ) → Tie op p i → who (op p).responsible ≡ true → A) → A
    crossed-by h f =
        bool_cases (is_write (op i).mark)
        (λ e.
        let d = s.uses (op i).object (rw e at h) in
        f d.p (record { earlier = d.below; here = d.live; there = live; same = d.on; write = or_right (is_write (op d.p).mark) (is_write (op i).mark) e }) d.by)
        (λ e.
        let d = s.writes (op i).object (rw e at h) in
        f d.p (record { earlier = d.below; here = d.live; there = live; same = d.on; write = or_left (is_write (op d.p).mark) (is_write (op i).mark) d.write }) d.by)

  pub in-crosses : (u w p q : ℕ) → Tie op p q → In u w p → cross u w (op q) ≡ true
  in-crosses u w p q t s =
      bool_cases (is_write (op q).mark)
      (λ e. rw e (ap (mem u) (sym t.same) ∙ s.used))
      (λ e. rw e (ap (mem w) (sym t.same) ∙ s.written (⊎_elim (λ h. h) (λ h. clash h e) (or_cases (is_write (op p).mark) (is_write (op q).mark) t.write))))

  -- operation i goes into them, or not
  module _ (i : ℕ) (live : is_gone (op i) ≡ false) (small : (op i).object < 64) where
    pub sets-some : (who : ℕ → Bool) (so : Bool) (u w : ℕ) → (so ≡ true → who (op i).responsible ≡ true) → Sets who i u w
        → Sets who (i + 1) (cond so (inserted u (op i).object) u) (cond (so && is_write (op i).mark) (inserted w (op i).object) w)
    sets-some who so u w h s = record {
      uses = λ o e. some-cases so u (op i).object small o e
          (λ m. source_more who i o (s.uses o m))
          (λ t q. here o q (h t));
      writes = λ o e. some-cases (so && is_write (op i).mark) w (op i).object small o e
          (λ m. writer-more who i o (s.writes o m))
          (λ t q. let b = on_and so (is_write (op i).mark) t in record { p = i; below = omega arith; live = live; on = sym q; by = h b.0; write = b.1 });
    }
      where
        here : (o : ℕ) → o ≡ (op i).object → who (op i).responsible ≡ true → Source who (i + 1) o
        here o q t = record { p = i; below = omega arith; live = live; on = sym q; by = t }

    pub in-old : (so : Bool) (u w p : ℕ) → In u w p → In (cond so (inserted u (op i).object) u) (cond (so && is_write (op i).mark) (inserted w (op i).object) w) p
    in-old so u w p s = record {
      used = some-old so u (op i).object small (op p).object s.used;
      written = λ e. some-old (so && is_write (op i).mark) w (op i).object small (op p).object (s.written e);
    }

    pub in-new : (so : Bool) (u w : ℕ) → so ≡ true → In (cond so (inserted u (op i).object) u) (cond (so && is_write (op i).mark) (inserted w (op i).object) w) i
    in-new so u w h = record {
      used = some-new so u (op i).object small h;
      written = λ e. some-new (so && is_write (op i).mark) w (op i).object small (and_on so (is_write (op i).mark) h e);
    }

-- ---- the pass

module _ (n : ℕ) (op : ℕ → Operation) (start from : ℕ) where
  abbrev pub is_start : ℕ → Bool
  is_start k = eqb k start

  pub record Going (i mine put used written reached missed : ℕ) : Type 0 where
    pub more : from ≤ reached
    pub only : (k : ℕ) → mem reached k ≡ true → Led (ties_of n op) start from k
    pub kept : (k : ℕ) → mem from k ≡ true → mem reached k ≡ true
    pub fresh : (k : ℕ) → mem missed k ≡ true → mem from k ≡ false
    pub own : Sets op is_start i mine put
    pub theirs : Sets op (mem reached) i used written
    pub own-all : (p : ℕ) → p < i → is_gone (op p) ≡ false → (op p).responsible ≡ start → In op mine put p ⊎ In op used written p
    pub theirs-all : (p : ℕ) → p < i → is_gone (op p) ≡ false → mem missed (op p).responsible ≡ false → In op used written p
    pub first : (p q : ℕ) → Tie op p q → q < i → (op p).responsible ≡ start → (op q).responsible ≢ start → mem reached (op q).responsible ≡ true
    pub all : (p q : ℕ) → Tie op p q → q < i → mem missed (op p).responsible ≡ false → mem reached (op q).responsible ≡ true

  pub going-none : Going 0 0 0 0 0 from 0
  going-none = record {
    more = omega arith;
    only = λ k h. Led.held h;
    kept = λ k h. h;
    fresh = λ k h. clash h (mem-empty k);
    own = record { uses = λ o h. clash h (mem-empty o); writes = λ o h. clash h (mem-empty o) };
    theirs = record { uses = λ o h. clash h (mem-empty o); writes = λ o h. clash h (mem-empty o) };
    own-all = λ p l h e. absurd (omega arith);
    theirs-all = λ p l h e. absurd (omega arith);
    first = λ p q t l a b. absurd (omega arith);
    all = λ p q t l a. absurd (omega arith);
  }

  module _ (i mine put used written reached missed : ℕ) (g : Going i mine put used written reached missed) where
    pub going-dead : is_gone (op i) ≡ true → Going (i + 1) mine put used written reached missed
    going-dead h = record {
      more = g.more;
      only = g.only;
      kept = g.kept;
      fresh = g.fresh;
      own = record { uses = λ o e. source_more op is_start i o (g.own.uses o e); writes = λ o e. writer-more op is_start i o (g.own.writes o e) };
      theirs = record { uses = λ o e. source_more op (mem reached) i o (g.theirs.uses o e); writes = λ o e. writer-more op (mem reached) i o (g.theirs.writes o e) };
      own-all = λ p l a e. same_or p i (λ q. clash (ap (λ (k : ℕ). is_gone (op k)) q ∙ h) a) (λ q. g.own-all p (omega arith) a e);
      theirs-all = λ p l a e. same_or p i (λ q. clash (ap (λ (k : ℕ). is_gone (op k)) q ∙ h) a) (λ q. g.theirs-all p (omega arith) a e);
      first = λ p q t l a b. same_or q i (λ e. clash (ap (λ (k : ℕ). is_gone (op k)) e ∙ h) t.there) (λ e. g.first p q t (omega arith) a b);
      all = λ p q t l a. same_or q i (λ e. clash (ap (λ (k : ℕ). is_gone (op k)) e ∙ h) t.there) (λ e. g.all p q t (omega arith) a);
    }

    module _ (below : i < n) (live : is_gone (op i) ≡ false) where
      abbrev who : ℕ
      who = (op i).responsible

      abbrev object : ℕ
      object = (op i).object

      abbrev pub test : Bool
      test = cross op used written (op i) || (mem reached who || (cross op mine put (op i) && not (is_start who)))

      object-small : object < 64
      object-small = omega (arith, (kept_small (op i) live).1)

      who-small : who < 64
      who-small = (kept_small (op i) live).0

      mine-after : Sets op is_start (i + 1) (cond (is_start who) (inserted mine object) mine) (cond (is_start who && is_write (op i).mark) (inserted put object) put)
      mine-after = sets-some op i live object-small is_start (is_start who) mine put (λ h. h) g.own

      mine-all : (u w : ℕ) → ((p : ℕ) → In op used written p → In op u w p) → (p : ℕ) → p < i + 1 → is_gone (op p) ≡ false → (op p).responsible ≡ start
          → In op (cond (is_start who) (inserted mine object) mine) (cond (is_start who && is_write (op i).mark) (inserted put object) put) p ⊎ In op u w p
      mine-all u w f p l a e =
          same_or p i
          (λ q. inl (subst⁻¹ (In op (cond (is_start who) (inserted mine object) mine) (cond (is_start who && is_write (op i).mark) (inserted put object) put)) q
          (in-new op i live object-small (is_start who) mine put (eq-eqb who start (ap (λ (k : ℕ). (op k).responsible) (sym q) ∙ e)))))
          (λ q. ⊎_elim (λ x. inl (in-old op i live object-small (is_start who) mine put p x)) (λ x. inr (f p x)) (g.own-all p (omega arith) a e))

      -- who is led to
      pub led : test ≡ true → Led (ties_of n op) start from who
      led h =
          ⊎_elim
          (λ c. crossed-by op (mem reached) i used written g.theirs live c
          (λ p t m. same_or (op p).responsible who
          (λ e. g.only who (ap (mem reached) (sym e) ∙ m))
          (λ e. Led.onward (g.only (op p).responsible m) (tied n op p i t below e))))
          (λ r. ⊎_elim (g.only who)
          (λ c.
          let b = on_and (cross op mine put (op i)) (not (is_start who)) c in
          crossed-by op is_start i mine put g.own live b.0
          (λ p t m.
          let at : (op p).responsible ≡ start = eqb-true (op p).responsible start m in
          Led.begun (subst (λ (a : ℕ). ties_of n op a who ≡ true) at
          (tied n op p i t below (λ e. clash (eq-eqb who start (sym e ∙ at)) (on-not (is_start who) b.1))))))
          (or_cases (mem reached who) (cross op mine put (op i) && not (is_start who)) r))
          (or_cases (cross op used written (op i)) (mem reached who || (cross op mine put (op i) && not (is_start who))) h)

      grown : (k : ℕ) → mem reached k ≡ true → mem (inserted reached who) k ≡ true
      grown = some-old true reached who who-small

      pub going-only : test ≡ true → (k : ℕ) → mem (inserted reached who) k ≡ true → Led (ties_of n op) start from k
      going-only h k e = some-cases true reached who who-small k e (g.only k) (λ t q. subst⁻¹ (Led (ties_of n op) start from) q (led h))

      pub going-grown : from ≤ inserted reached who
      going-grown = rw (inserted-in reached who who-small) (omega (arith, g.more, union-le reached (2 ^ who)))

      pub going-in : test ≡ true → Going (i + 1) (cond (is_start who) (inserted mine object) mine) (cond (is_start who && is_write (op i).mark) (inserted put object) put)
          (inserted used object) (cond (is_write (op i).mark) (inserted written object) written) (inserted reached who) missed
      going-in h = record {
        more = going-grown;
        only = going-only h;
        kept = λ k e. grown k (g.kept k e);
        fresh = g.fresh;
        own = mine-after;
        theirs = sets-some op i live object-small (mem (inserted reached who)) true used written (λ t. some-new true reached who who-small refl)
            (record {
              uses = λ o e. source-grown op (mem reached) (mem (inserted reached who)) grown i o (g.theirs.uses o e);
              writes = λ o e. writer-grown op (mem reached) (mem (inserted reached who)) grown i o (g.theirs.writes o e);
            });
        own-all = mine-all (inserted used object) (cond (is_write (op i).mark) (inserted written object) written) (in-old op i live object-small true used written);
        theirs-all = λ p l a e. same_or p i
            (λ q. subst⁻¹ (In op (inserted used object) (cond (is_write (op i).mark) (inserted written object) written)) q (in-new op i live object-small true used written refl))
            (λ q. in-old op i live object-small true used written p (g.theirs-all p (omega arith) a e));
        first = λ p q t l a b. same_or q i
            (λ e. subst⁻¹ (λ (k : ℕ). mem (inserted reached who) (op k).responsible ≡ true) e (some-new true reached who who-small refl))
            (λ e. grown (op q).responsible (g.first p q t (omega arith) a b));
        all = λ p q t l a. same_or q i
            (λ e. subst⁻¹ (λ (k : ℕ). mem (inserted reached who) (op k).responsible ≡ true) e (some-new true reached who who-small refl))
            (λ e. grown (op q).responsible (g.all p q t (omega arith) a));
      }

      pub going-out : test ≡ false → Going (i + 1) (cond (is_start who) (inserted mine object) mine) (cond (is_start who && is_write (op i).mark) (inserted put object) put)
          used written reached (inserted missed who)
      going-out h =
          let off = off-or (cross op used written (op i)) (mem reached who || (cross op mine put (op i) && not (is_start who))) h in
          let rest = off-or (mem reached who) (cross op mine put (op i) && not (is_start who)) off.1 in
          record {
            more = g.more;
            only = g.only;
            kept = g.kept;
            fresh = λ k e. some-cases true missed who who-small k e (g.fresh k)
                (λ t q. is-not (mem from k) (λ m. clash (g.kept k m) (ap (mem reached) q ∙ rest.0)));
            own = mine-after;
            theirs = record { uses = λ o e. source_more op (mem reached) i o (g.theirs.uses o e); writes = λ o e. writer-more op (mem reached) i o (g.theirs.writes o e) };
            own-all = mine-all used written (λ p x. x);
            theirs-all = λ p l a e. same_or p i
                (λ q. clash (ap (λ (k : ℕ). mem (inserted missed who) (op k).responsible) q ∙ some-new true missed who who-small refl) e)
                (λ q. g.theirs-all p (omega arith) a (some-off true missed who who-small (op p).responsible e));
            first = λ p q t l a b. same_or q i
                (λ e. ⊎_elim
                (λ s. clash
                (and_on (cross op mine put (op i)) (not (is_start who))
                (in-crosses op mine put p i (subst (Tie op p) e t) s)
                (not_on (is_start who) (ne_eqb who start (λ z. b (ap (λ (k : ℕ). (op k).responsible) e ∙ z)))))
                rest.1)
                (λ s. clash (in-crosses op used written p i (subst (Tie op p) e t) s) off.0)
                (g.own-all p (omega (arith, t.earlier)) t.here a))
                (λ e. g.first p q t (omega arith) a b);
            all = λ p q t l a. same_or q i
                (λ e. clash
                (in-crosses op used written p i (subst (Tie op p) e t) (g.theirs-all p (omega (arith, t.earlier)) t.here (some-off true missed who who-small (op p).responsible a)))
                off.0)
                (λ e. g.all p q t (omega arith) (some-off true missed who who-small (op p).responsible a));
          }

    -- all are passed
    pub going_end : i ≡ n → Passed (ties_of n op) start from reached missed
    going_end e = record {
      more = g.more;
      only = g.only;
      kept = g.kept;
      fresh = λ k h. is-not (mem missed k) (λ m. clash h (g.fresh k m));
      first = λ k r.
          let w = between n op start k r in
          subst (λ (b : ℕ). mem reached b ≡ true) w.second
          (g.first w.p w.q (tie-of op w.p w.q w.earlier w.tie) (omega (arith, w.below)) w.first (λ s. w.tie.other (w.first ∙ sym s)));
      done = λ a k h r.
          let w = between n op a k r in
          subst (λ (b : ℕ). mem reached b ≡ true) w.second
          (g.all w.p w.q (tie-of op w.p w.q w.earlier w.tie) (omega (arith, w.below)) (ap (mem missed) w.first ∙ h));
    }

  -- ---- the pass as it is computed

  abbrev pub GoingBy : ℕ → Pass → Type 0
  GoingBy i p = Going i p.mine.used p.mine.written p.theirs.used p.theirs.written p.reached p.missed

  going_step : (i : ℕ) (p : Pass) → i < n → GoingBy i p → GoingBy (i + 1) (passed start (op i) p)
  unfolding passed
  going_step i p l g =
      bool_cases (is_gone (op i))
      (λ h. rw h (going-dead i p.mine.used p.mine.written p.theirs.used p.theirs.written p.reached p.missed g h))
      (λ h.
      bool_cases (hits start (op i) p)
      (λ t. rw (h, t) (going-in i p.mine.used p.mine.written p.theirs.used p.theirs.written p.reached p.missed g l h t))
      (λ t. rw (h, t) (going-out i p.mine.used p.mine.written p.theirs.used p.theirs.written p.reached p.missed g l h t)))

  going-to : (i : ℕ) → i ≤ n → GoingBy i (pass_to i op start from)
  unfolding pass_to
  going-to zero l = going-none
  going-to (suc i) l =
      subst (λ (k : ℕ). GoingBy k (passed start (op i) (pass_to i op start from))) (add-one i)
      (going_step i (pass_to i op start from) (omega arith) (going-to i (omega arith)))

  pub pass-done : Passed (ties_of n op) start from (pass_to n op start from).reached (pass_to n op start from).missed
  pass-done =
      let p = pass_to n op start from in
      going_end n p.mine.used p.mine.written p.theirs.used p.theirs.written p.reached p.missed (going-to n (omega arith)) refl
