-- SPDX-License-Identifier: GPL-2.0-only
-- What a search by index says.
use Rattle.shr_list.proofs.Common.{◌≡◌, ℕ, Bool, true, List, [], ◌∷◌, Option, Some, None, sym, ap, ◌∙◌, is_some, get_or, list_any, find, Object, is_some_find, position, find_at, IsFirstAt_of_position, none_of_position}

-- an item passes where an index was found
pub held_at : (test : Object → Bool) (items : List Object) (i : ℕ) → Some i ≡ position test items → list_any test items ≡ true
held_at test [] i given = absurd (cc)
held_at test (x ∷ xs) i given = sym (is_some_find test (x ∷ xs)) ∙ ap is_some (find_at test (x ∷ xs) i x (IsFirstAt_of_position test (x ∷ xs) i given))

-- an index was found exactly where an item passes
pub any_position : (test : Object → Bool) (items : List Object) (r : Option ℕ) → r ≡ position test items → is_some r ≡ list_any test items
any_position test items None given = sym (none_of_position test items given)
any_position test items (Some i) given = sym (held_at test items i given)

-- the item at the index is the one that is named
pub named_at : (test : Object → Bool) (items : List Object) (i : ℕ) (o : Object) → Some i ≡ position test items → o ≡ get_or items i o → find test items ≡ Some o
named_at test items i o given is = find_at test items i o (IsFirstAt_of_position test items i given) ∙ ap Some (sym is)
