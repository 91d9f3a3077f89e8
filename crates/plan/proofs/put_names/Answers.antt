use native.Mathlib.Omega.{arith}
use mathlib.Core.Path.{◌≡◌, sym, ap, ◌∙◌}
use mathlib.Core.List.{List, ◌∷◌}
use mathlib.Core.Bool.{Bool, true}
use Prim.Native.Nat.{ℕ, ◌+◌, ◌≤◌, ◌<◌}
use lib.ListN.{length, drop, length-set, length-append}
use Rattle.plan.specs.Lines.{name_of, entry_by, entries_of}
use Rattle.plan.specs.Reading.{names_in, joined, ends_from}
use Rattle.plan.specs.Passes.{laid, has_name}
use Rattle.plan.specs.declared.Word.{Word}
use Rattle.plan.proofs.LaidLaws.{laid_none, laid_cons, laid-append}
use Rattle.plan.proofs.EntryLaws.{no-entries, names-none, joined-none, joined-cons, ends-none, ends-cons, names-on, names-off}
use Rattle.plan.proofs.put_names.Goals as goal

-- a name stands before the names to come
named : (text name line : List ℕ) (at next : ℕ) (lists : Bool) (w : Word) → entries_of (drop at text) ≡ entry_by w (name_of line) ∷ entries_of (drop next text)
    → has_name w lists ≡ true → name ≡ name_of line
    → names_in lists (entries_of (drop at text)) ≡ name ∷ names_in lists (entries_of (drop next text))
named text name line at next lists w turn on same =
    let rest = names_in lists (entries_of (drop next text)) in
    ap (names_in lists) turn ∙ names-on (name_of line) (entries_of (drop next text)) w lists on ∙ ap (λ (x : List ℕ). x ∷ rest) (sym same)

-- how many bytes the names to come have
size : (name : List ℕ) (xs ys : List (List ℕ)) → xs ≡ name ∷ ys → length (joined xs) ≡ length name + length (joined ys)
size name xs ys e = ap (λ (zs : List (List ℕ)). length (joined zs)) e ∙ ap length (joined-cons name ys) ∙ length-append name (joined ys)

pub overflow_cast-ends : goal.overflow_cast-ends
overflow_cast-ends c =
    let a = c.args in
    let l = c.loop-at in
    let next = c.said_at-said.result.next in
    let name = c.name_of-name.result.now in
    let line = c.said_at-said.result.line.now in
    let turn = c.said_at-said.ensures.entry in
    let q = named a.text.now name line l.at next a.lists c.said_at-said.result.word turn (sym c.has_name.ensures ∙ c.if-has_name.true) c.name_of-name.ensures in
    let rest = names_in a.lists (entries_of (drop next a.text.now)) in
    let s = size name (names_in a.lists (entries_of (drop l.at a.text.now))) rest q in
    omega (arith, s, c.requires.text_bound, l.invariant.3)

pub bounds-ends-k : goal.bounds-ends-k
bounds-ends-k c =
    let a = c.args in
    let l = c.loop-at in
    let next = c.said_at-said.result.next in
    let name = c.name_of-name.result.now in
    let line = c.said_at-said.result.line.now in
    let turn = c.said_at-said.ensures.entry in
    let q = named a.text.now name line l.at next a.lists c.said_at-said.result.word turn (sym c.has_name.ensures ∙ c.if-has_name.true) c.name_of-name.ensures in
    let rest = names_in a.lists (entries_of (drop next a.text.now)) in
    let s = size name (names_in a.lists (entries_of (drop l.at a.text.now))) rest q in
    omega (arith, ap length q, c.requires.text_in_bounds_2, l.invariant.2, l.invariant.4)

pub put-requires : goal.put-requires
put-requires c =
    let a = c.args in
    let l = c.loop-at in
    let next = c.said_at-said.result.next in
    let name = c.name_of-name.result.now in
    let line = c.said_at-said.result.line.now in
    let turn = c.said_at-said.ensures.entry in
    let q = named a.text.now name line l.at next a.lists c.said_at-said.result.word turn (sym c.has_name.ensures ∙ c.if-has_name.true) c.name_of-name.ensures in
    let rest = names_in a.lists (entries_of (drop next a.text.now)) in
    let s = size name (names_in a.lists (entries_of (drop l.at a.text.now))) rest q in
    omega (arith, s, c.requires.text_in_bounds, l.invariant.1, l.invariant.3)

pub loop-at-preserved-then-has_name : goal.loop-at-preserved-then-has_name
loop-at-preserved-then-has_name c =
    let next = c.said_at-said.ensures.next_after in
    let a = c.args in
    let l = c.loop-at in
    let next = c.said_at-said.result.next in
    let name = c.name_of-name.result.now in
    let line = c.said_at-said.result.line.now in
    let turn = c.said_at-said.ensures.entry in
    let q = named a.text.now name line l.at next a.lists c.said_at-said.result.word turn (sym c.has_name.ensures ∙ c.if-has_name.true) c.name_of-name.ensures in
    let rest = names_in a.lists (entries_of (drop next a.text.now)) in
    let s = size name (names_in a.lists (entries_of (drop l.at a.text.now))) rest q in
    let room : l.n + length name ≤ length l.names = omega (arith, s, c.requires.text_in_bounds, l.invariant.1, l.invariant.3) in
    let place : l.k < length l.ends = omega (arith, ap length q, c.requires.text_in_bounds_2, l.invariant.2, l.invariant.4) in
    let p = c.put in (
      omega arith,
      p.auto.room ∙ l.invariant.1,
      simp length-set l.invariant.2,
      omega (arith, s, l.invariant.3),
      omega (arith, ap length q, l.invariant.4),
      l.invariant.5 ∙ ap (λ (xs : List (List ℕ)). laid l.names l.n (joined xs)) q ∙ ap (laid l.names l.n) (joined-cons name rest)
          ∙ laid-append l.names l.n name room (joined rest) ∙ ap (λ (s : List ℕ). laid s (l.n + length name) (joined rest)) (sym p.ensures),
      l.invariant.6 ∙ ap (λ (xs : List (List ℕ)). laid l.ends l.k (ends_from l.n xs)) q ∙ ap (laid l.ends l.k) (ends-cons l.n name rest)
          ∙ laid_cons l.ends l.k (l.n + length name) (ends_from (l.n + length name) rest) place,
    )

pub loop-at-preserved : goal.loop-at-preserved
loop-at-preserved c =
    let next = c.said_at-said.ensures.next_after in
    let a = c.args in
    let l = c.loop-at in
    let next = c.said_at-said.result.next in
    let line = c.said_at-said.result.line.now in
    let turn = c.said_at-said.ensures.entry in
    let q = ap (names_in a.lists) turn ∙ names-off (name_of line) (entries_of (drop next a.text.now)) c.said_at-said.result.word a.lists (sym c.has_name.ensures ∙ c.if-has_name.false) in (
      omega arith,
      l.invariant.1,
      l.invariant.2,
      ap (λ (xs : List (List ℕ)). l.n + length (joined xs)) (sym q) ∙ l.invariant.3,
      ap (λ (xs : List (List ℕ)). l.k + length xs) (sym q) ∙ l.invariant.4,
      l.invariant.5 ∙ ap (λ (xs : List (List ℕ)). laid l.names l.n (joined xs)) q,
      l.invariant.6 ∙ ap (λ (xs : List (List ℕ)). laid l.ends l.k (ends_from l.n xs)) q,
    )

pub returns : goal.returns
returns c =
    let a = c.args in
    let l = c.loop-at in
    let none = ap (names_in a.lists) (no-entries a.text.now l.at (omega arith)) ∙ names-none a.lists in record {
      names_after = sym (l.invariant.5 ∙ ap (λ (xs : List (List ℕ)). laid l.names l.n (joined xs)) none ∙ ap (laid l.names l.n) joined-none ∙ laid_none l.names l.n);
      ends_after = sym (l.invariant.6 ∙ ap (λ (xs : List (List ℕ)). laid l.ends l.k (ends_from l.n xs)) none ∙ ap (laid l.ends l.k) (ends-none l.n) ∙ laid_none l.ends l.k);
      bytes_value = omega (arith, ap (λ (xs : List (List ℕ)). length (joined xs)) none, ap length joined-none, l.invariant.3);
      names_value = omega (arith, ap length none, l.invariant.4);
    }
