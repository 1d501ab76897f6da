-- Choices by a test, and tests joined.
-- Assumes nothing.
use mathlib.Core.Path.{◌≡◌, refl, sym, ap, subst}
use mathlib.Core.Bool.{Bool, true, false, cond, ◌&&◌, ◌||◌, true≢false}
use lib.Dec.{T}

-- a choice whose test is known
pub cond_on : {A : Type 0} {t : Bool} → t ≡ true → (x y : A) → cond t x y ≡ x
cond_on e x y = ap (λ (b : Bool). cond b x y) e

pub cond_off : {A : Type 0} {t : Bool} → t ≡ false → (x y : A) → cond t x y ≡ y
cond_off e x y = ap (λ (b : Bool). cond b x y) e

-- the parts of a test that both hold
pub and_left : (a b : Bool) → T (a && b) → T a
and_left true b t = tt
and_left false b t = t

pub and_right : (a b : Bool) → T (a && b) → T b
and_right true b t = t
and_right false b t = absurd t

pub and_both : (a b : Bool) → T a → T b → T (a && b)
and_both true b s t = t
and_both false b s t = s

-- the parts of a test neither of which holds
pub or_left : (a b : Bool) → (a || b) ≡ false → a ≡ false
or_left true b e = e
or_left false b e = refl

pub or_right : (a b : Bool) → (a || b) ≡ false → b ≡ false
or_right true b e = absurd (true≢false e)
or_right false b e = e

-- a test that holds, as a fact and as an equation
pub T_true : (b : Bool) → T b → b ≡ true
T_true true t = refl
T_true false t = absurd t

pub true-T : (b : Bool) → b ≡ true → T b
true-T b e = subst T (sym e) tt

-- what is made of a choice is the choice of what is made of both ways
pub cond_of : {A B : Type 0} (f : A → B) (b : Bool) (x y : A) (v w : B) → f x ≡ v → f y ≡ w → f (cond b x y) ≡ cond b v w
cond_of f true x y v w p q = p
cond_of f false x y v w p q = q

-- a property of both ways of a choice
pub on_cond : {A : Type 0} (P : A → Type 0) (b : Bool) (x y : A) → (b ≡ true → P x) → (b ≡ false → P y) → P (cond b x y)
on_cond P true x y f g = f refl
on_cond P false x y f g = g refl
