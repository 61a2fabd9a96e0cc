-- SPDX-License-Identifier: GPL-2.0-only
-- The definitions on paths at known values.
use Rattle.std.specs.Prelude.{◌≡◌, true, false, [], ◌∷◌, codes, refl}
use Rattle.shr_model.specs.Pieces.{cut, pieces, joined}
use Rattle.shr_model.specs.Paths.{is_path, parent_path}

parted : pieces 32 (codes "put  x") ≡ codes "put" ∷ [] ∷ codes "x" ∷ []
unfolding pieces cut
parted = refl

joined_again : joined 32 (codes "put") ([] ∷ codes "x" ∷ []) ≡ codes "put  x"
unfolding joined
joined_again = refl

root : is_path (codes "/") ≡ true
unfolding is_path pieces cut
root = refl

two_parts : is_path (codes "/a/b_1") ≡ true
unfolding is_path pieces cut
two_parts = refl

no_slash : is_path (codes "a") ≡ false
unfolding is_path pieces cut
no_slash = refl

upper_case : is_path (codes "/A") ≡ false
unfolding is_path pieces cut
upper_case = refl

empty_part : is_path (codes "/a/") ≡ false
unfolding is_path pieces cut
empty_part = refl

below_root : parent_path (codes "/a") ≡ codes "/"
unfolding parent_path
below_root = refl

below_two : parent_path (codes "/a/b/c") ≡ codes "/a/b"
unfolding parent_path
below_two = refl
