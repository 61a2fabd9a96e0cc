-- SPDX-License-Identifier: GPL-2.0-only
-- Look-ups in the maps of an index.
use Rattle.shr_list.proofs.Common.{◌≡◌, Bool, List, [], ◌∷◌, length, None, refl}
use Rattle.std.specs.Map.{lookup}

-- nothing is found where there is nothing
pub lookup_none : {K X : Type 0} (test : K → Bool) (entries : List (K × X)) → length entries ≡ 0 → lookup test entries ≡ None
lookup_none test [] none = refl
lookup_none test (e ∷ es) none = absurd (cc)
