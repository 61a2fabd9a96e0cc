-- SPDX-License-Identifier: GPL-2.0-only
-- What is made of whatever an option has.
use Rattle.shr_audit_isolations.proofs.Common.{◌≡◌, Option, Some, None, refl, sym, ap, option_map, IsSomeAnd}

-- what leaves each value as it is leaves the option so
pub map_same : {X : Type 0} (f : X → X) (o : Option X) → ((x : X) → o ≡ Some x → f x ≡ x) → o ≡ option_map f o
map_same {X} f None h = refl
map_same {X} f (Some x) h = ap (λ (y : X). Some y) (sym (h x refl))

-- what is the same of each value is the same of the option
pub map_alike : {X Y : Type 0} (f g : X → Y) (o : Option X) → ((x : X) → o ≡ Some x → f x ≡ g x) → option_map f o ≡ option_map g o
map_alike f g None h = refl
map_alike {X} {Y} f g (Some x) h = ap (λ (y : Y). Some y) (h x refl)

-- one after another
pub map_then : {X Y Z : Type 0} (f : X → Y) (g : Y → Z) (h : X → Z) (o : Option X) → ((x : X) → o ≡ Some x → g (f x) ≡ h x) → option_map g (option_map f o) ≡ option_map h o
map_then f g h None e = refl
map_then {X} {Y} {Z} f g h (Some x) e = ap (λ (y : Z). Some y) (e x refl)

-- what is so of a value is so of what is made of it
pub some_mapped : {X Y : Type 0} (f : X → Y) (o : Option X) (P : X → Type 0) (Q : Y → Type 0) → ((x : X) → P x → Q (f x)) → IsSomeAnd o P → IsSomeAnd (option_map f o) Q
some_mapped f None P Q step h = absurd h
some_mapped f (Some x) P Q step h = step x h

pub some_unmapped : {X Y : Type 0} (f : X → Y) (o : Option X) (P : X → Type 0) (Q : Y → Type 0) → ((x : X) → Q (f x) → P x) → IsSomeAnd (option_map f o) Q → IsSomeAnd o P
some_unmapped f None P Q step h = absurd h
some_unmapped f (Some x) P Q step h = step x h
