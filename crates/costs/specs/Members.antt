-- What stands in a list. Assumes nothing.
use Rattle.std.specs.Prelude.{◌≡◌, ◌*◌, ◌≤◌, ◌⊎◌, List, [], ◌∷◌, ◌++◌, map, length, refl}
use Rattle.std.proofs.Common.{sym, ap, subst, inl, inr, ⊎_elim, arith, add-mul}
use Rattle.std.specs.List.{flat_map, AllByRecursion}
use Rattle.std.proofs.lemmas.List.{length-append, length-map}
use Rattle.costs.specs.Amounts.{Amounts}
use Rattle.costs.specs.Lists.{Among, sums}

pub among_all : {X : Type 0} (P : X → Type 0) (x : X) (xs : List X) → AllByRecursion P xs → Among x xs → P x
among_all P x [] all h = absurd h
among_all P x (y ∷ ys) all (inl e) = subst P e all.0
among_all P x (y ∷ ys) all (inr h) = among_all P x ys all.1 h

pub all_among : {X : Type 0} (P : X → Type 0) (xs : List X) → ((x : X) → Among x xs → P x) → AllByRecursion P xs
all_among P [] h = tt
all_among P (x ∷ xs) h = (h x (inl refl), all_among P xs (λ y a. h y (inr a)))

pub among_left : {X : Type 0} (x : X) (xs ys : List X) → Among x xs → Among x (xs ++ ys)
among_left x [] ys h = absurd h
among_left x (y ∷ xs) ys (inl e) = inl e
among_left x (y ∷ xs) ys (inr h) = inr (among_left x xs ys h)

pub among_right : {X : Type 0} (x : X) (xs ys : List X) → Among x ys → Among x (xs ++ ys)
among_right x [] ys h = h
among_right x (y ∷ xs) ys h = inr (among_right x xs ys h)

pub among_append : {X : Type 0} (x : X) (xs ys : List X) → Among x (xs ++ ys) → Among x xs ⊎ Among x ys
among_append x [] ys h = inr h
among_append x (y ∷ xs) ys (inl e) = inl (inl e)
among_append x (y ∷ xs) ys (inr h) = ⊎_elim (λ l. inl (inr l)) inr (among_append x xs ys h)

pub among_map : {X Y : Type 0} (f : X → Y) (x : X) (xs : List X) → Among x xs → Among (f x) (map f xs)
among_map f x [] h = absurd h
among_map f x (y ∷ ys) (inl e) = inl (ap f e)
among_map f x (y ∷ ys) (inr h) = inr (among_map f x ys h)

pub among_unmapped : {X Y : Type 0} (f : X → Y) (y : Y) (xs : List X) → Among y (map f xs) → (x : X) × (Among x xs × (f x ≡ y))
among_unmapped f y [] h = absurd h
among_unmapped f y (x ∷ xs) (inl e) = (x, (inl refl, e))
among_unmapped f y (x ∷ xs) (inr h) = let r = among_unmapped f y xs h in (r.0, (inr r.1.0, r.1.1))

pub among_joined : {I X : Type 0} (T : I → List X) (x : X) (d : I) (ds : List I) → Among d ds → Among x (T d) → Among x (flat_map T ds)
among_joined T x d [] h m = absurd h
among_joined T x d (y ∷ ds) (inl e) m = among_left x (T y) (flat_map T ds) (subst (λ z. Among x (T z)) (sym e) m)
among_joined T x d (y ∷ ds) (inr h) m = among_right x (T y) (flat_map T ds) (among_joined T x d ds h m)

pub among_unjoined : {I X : Type 0} (T : I → List X) (x : X) (ds : List I) → Among x (flat_map T ds) → (d : I) × (Among d ds × Among x (T d))
among_unjoined T x [] h = absurd h
among_unjoined T x (d ∷ ds) h =
    ⊎_elim (λ here. (d, (inl refl, here))) (λ there. let r = among_unjoined T x ds there in (r.0, (inr r.1.0, r.1.1))) (among_append x (T d) (flat_map T ds) h)

pub among_sums : {X : Type 0} (ops : Amounts X) (x y : X) (xs ys : List X) → Among x xs → Among y ys → Among (ops.plus x y) (sums ops xs ys)
among_sums ops x y xs ys h k = among_joined (λ a. map (ops.plus a) ys) (ops.plus x y) x xs h (among_map (ops.plus x) y ys k)

pub among_unsummed : {X : Type 0} (ops : Amounts X) (z : X) (xs ys : List X) → Among z (sums ops xs ys) → (x : X) × (y : X) × (Among x xs × (Among y ys × (ops.plus x y ≡ z)))
among_unsummed ops z xs ys h =
    let j = among_unjoined (λ a. map (ops.plus a) ys) z xs h in
    let u = among_unmapped (ops.plus j.0) z ys j.1.1 in
    (j.0, u.0, (j.1.0, (u.1.0, u.1.1)))

pub length_sums : {X : Type 0} (ops : Amounts X) (xs ys : List X) → length (sums ops xs ys) ≡ length xs * length ys
length_sums ops [] ys = omega arith
length_sums ops (x ∷ xs) ys =
    omega (arith, length-append (map (ops.plus x) ys) (sums ops xs ys), length-map ys (ops.plus x), length_sums ops xs ys, add-mul (length xs) 1 (length ys))

pub some_among : {X : Type 0} (x : X) (xs : List X) → Among x xs → 1 ≤ length xs
some_among x [] h = absurd h
some_among x (y ∷ ys) h = omega arith

pub one_among : {X : Type 0} (xs : List X) → 1 ≤ length xs → (x : X) × Among x xs
one_among [] some = absurd (omega arith)
one_among (x ∷ xs) some = (x, inl refl)
