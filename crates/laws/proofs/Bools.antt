-- Truth values. A name that begins with the connective puts it together (`or_off`), one that ends with it takes it apart (`off-or`);
-- `on` is true, `off` is false.
use mathlib.Core.Path.{◌≡◌, refl, sym, ap, ◌∙◌}
use mathlib.Core.Bool.{Bool, true, false, not, ◌&&◌, ◌||◌, true≢false, false≢true}
use mathlib.Core.Logic.{◌⊎◌, inl, inr}

-- ---- or

pub or_left : (a b : Bool) → a ≡ true → (a || b) ≡ true
or_left true b h = refl
or_left false b h = absurd (false≢true h)

pub or_right : (a b : Bool) → b ≡ true → (a || b) ≡ true
or_right true b h = refl
or_right false b h = h

pub or_cases : (a b : Bool) → (a || b) ≡ true → (a ≡ true) ⊎ (b ≡ true)
or_cases true b h = inl refl
or_cases false b h = inr h

pub or_off : (a b : Bool) → a ≡ false → b ≡ false → (a || b) ≡ false
or_off true b h k = h
or_off false b h k = k

pub off-or : (a b : Bool) → (a || b) ≡ false → (a ≡ false) × (b ≡ false)
off-or true b h = absurd (true≢false h)
off-or false b h = (refl, h)

pub or-rest : (a b : Bool) → (a || b) ≡ true → a ≡ false → b ≡ true
or-rest true b h k = absurd (true≢false k)
or-rest false b h k = h

-- ---- and

pub and_on : (a b : Bool) → a ≡ true → b ≡ true → (a && b) ≡ true
and_on true b h k = k
and_on false b h k = h

pub on_and : (a b : Bool) → (a && b) ≡ true → (a ≡ true) × (b ≡ true)
on_and true b h = (refl, h)
on_and false b h = absurd (false≢true h)

pub and-off : (a b : Bool) → (a ≡ true → b ≡ false) → (a && b) ≡ false
and-off true b h = h refl
and-off false b h = refl

pub and-rest : (a b : Bool) → (a && b) ≡ false → a ≡ true → b ≡ false
and-rest true b h k = h
and-rest false b h k = absurd (false≢true k)

-- ---- not

pub not_on : (a : Bool) → a ≡ false → not a ≡ true
not_on true h = absurd (true≢false h)
not_on false h = refl

pub not-off : (a : Bool) → a ≡ true → not a ≡ false
not-off true h = refl
not-off false h = absurd (false≢true h)

pub on-not : (a : Bool) → not a ≡ true → a ≡ false
on-not true h = absurd (false≢true h)
on-not false h = refl

pub off-not : (a : Bool) → not a ≡ false → a ≡ true
off-not true h = refl
off-not false h = absurd (true≢false h)

-- ---- by cases

pub bool_cases {ℓ} : {A : Type ℓ} (b : Bool) → (b ≡ true → A) → (b ≡ false → A) → A
bool_cases true f g = f refl
bool_cases false f g = g refl

pub clash {ℓ} : {A : Type ℓ} {b : Bool} → b ≡ true → b ≡ false → A
clash h k = absurd (true≢false (sym h ∙ k))

-- two tests that are true together are the same
pub together : (a b : Bool) → (a ≡ true → b ≡ true) → (b ≡ true → a ≡ true) → a ≡ b
together true b f g = sym (f refl)
together false true f g = g refl
together false false f g = refl

pub is-not : (a : Bool) → (a ≡ true → ⊥) → a ≡ false
is-not true h = absurd (h refl)
is-not false h = refl

-- ---- a test b of a value x that the code made is the definition's test of y

pub told : {A : Type 0} (f : A → Bool) {x y : A} {b v : Bool} → b ≡ f x → x ≡ y → b ≡ v → f y ≡ v
told f h e t = sym (h ∙ ap f e) ∙ t

-- the same, where the code tests that it does not hold
pub told-not : {A : Type 0} (f : A → Bool) {x y : A} {b v : Bool} → b ≡ f x → x ≡ y → not b ≡ v → not (f y) ≡ v
told-not f h e t = sym (ap not (h ∙ ap f e)) ∙ t
