-- SPDX-License-Identifier: GPL-2.0-only
-- A journal, replayed: how many objects there were after each entry, and what each entry freed.
use Rattle.std.specs.Prelude.{◌≡◌, ℕ, ◌+◌, Bool, true, false, ◌||◌, ◌↔◌, if◌then◌else◌, List, [], ◌∷◌, ◌++◌, length, map}
use Rattle.std.specs.Bool.{Decides}
use Rattle.shr_base.specs.declared.objects.Object.{Object}
use Rattle.shr_base.specs.declared.journals.Entry.{Entry}
use Rattle.shr_model.specs.Items.{step, freed_by, first_moved, later_moved, items_from, AreOutcomes, IsOutcome, is_closing}
use Rattle.shr_model.specs.MovedItems.{moved_by}
use Rattle.shr_model.specs.Families.{lists_moved, before_closed}
use Rattle.shr_audit_case.specs.declared.tags.FreedTag.{FreedTag}
use Rattle.shr_audit_case.specs.declared.values.FoundValue.{FoundValue}
use Rattle.shr_audit_case.specs.declared.journal.Replayed.{Replayed}
use Rattle.shr_audit_case.specs.declared.journal.Course.{Course}
use Rattle.shr_audit_case.specs.Tags.{tag_of, freed_tag}
use Rattle.shr_audit_case.specs.Values.{value_met, values_noted}

-- the numbers of items before each entry, and behind these the number after the last
unfoldable pub lens_from : List (List Object) → List Object → List Entry → List ℕ
lens_from moved items [] = length items ∷ []
lens_from moved items (e ∷ es) = length items ∷ lens_from (later_moved e moved) (step (first_moved moved) items e) es

-- the objects that entries free, in order, where the first entry has this number
unfoldable pub freed_tags : ℕ → List (List Object) → List Object → List Entry → List FreedTag
freed_tags n moved items [] = []
freed_tags n moved items (e ∷ es) = map (freed_tag n) (freed_by items e) ++ freed_tags (n + 1) (later_moved e moved) (step (first_moved moved) items e) es

-- the values that Looks met, in order, where the first entry has this number
unfoldable pub values_from : ℕ → List (List Object) → List Object → List Entry → List FoundValue
values_from n moved items [] = []
values_from n moved items (e ∷ es) = values_noted n (value_met items e) ++ values_from (n + 1) (later_moved e moved) (step (first_moved moved) items e) es

-- what a list gives to that of its parent group: what its entries leave before a Closed
abbrev pub given_from : (ℕ → List Object) → List Object → List Entry → List Object
given_from took items entries = items_from (lists_moved took (before_closed entries)) items (before_closed entries)

-- all that is told of a journal is so, where the MovedIn entries move these lists in turn and these
-- objects are printed
pub record IsReplayed (moved : List (List Object)) (entries : List Entry) (printed : List Object) (r : Replayed) : Type 0 where
  pub lens : r.lens.items ≡ lens_from moved [] entries
  pub freed : r.freed.items ≡ freed_tags 0 moved [] entries
  pub values : r.values.items ≡ values_from 0 moved [] entries
  pub left : r.left.items ≡ map tag_of (items_from moved [] entries)
  pub listed : Decides r.listed (printed ≡ items_from moved [] entries)
  pub right : Decides r.right (AreOutcomes moved [] entries)

-- no entry was replayed yet
pub record IsNew (c : Course) : Type 0 where
  pub items : c.queue.items ≡ []
  pub «open» : c.closed ≡ false
  pub lens : c.lens.items ≡ []
  pub freed : c.freed.items ≡ []
  pub values : c.values.items ≡ []
  pub right : c.right ≡ true

-- one more entry was replayed, where this is what each child's list still gives
pub record Advances (took : ℕ → List Object) (old new : Course) (e : Entry) : Type 0 where
  pub items : new.queue.items ≡ step (moved_by took e) old.queue.items e
  pub lens : new.lens.items ≡ old.lens.items ++ length old.queue.items ∷ []
  pub freed : new.freed.items ≡ old.freed.items ++ map (freed_tag (length old.lens.items)) (freed_by old.queue.items e)
  pub values : new.values.items ≡ old.values.items ++ values_noted (length old.lens.items) (value_met old.queue.items e)
  pub right : (new.right ≡ true) ↔ ((old.right ≡ true) × IsOutcome (moved_by took e) old.queue.items e)
  pub closed : new.closed ≡ (old.closed || is_closing e)
  pub aside : new.aside.items ≡ (if old.closed then old.aside.items else if is_closing e then old.queue.items else old.aside.items)

-- the last entry was replayed, where these objects are printed
pub record Finishes (c : Course) (printed : List Object) (r : Replayed) (given : List Object) : Type 0 where
  pub lens : r.lens.items ≡ c.lens.items ++ length c.queue.items ∷ []
  pub freed : r.freed.items ≡ c.freed.items
  pub values : r.values.items ≡ c.values.items
  pub left : r.left.items ≡ map tag_of c.queue.items
  pub listed : Decides r.listed (printed ≡ c.queue.items)
  pub right : r.right ≡ c.right
  pub given_is : given ≡ (if c.closed then c.aside.items else c.queue.items)
