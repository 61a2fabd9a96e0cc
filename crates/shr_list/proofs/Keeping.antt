-- SPDX-License-Identifier: GPL-2.0-only
-- What a list keeps over an entry.
use Rattle.shr_list.proofs.Common.{◌≡◌, ℕ, ◌+◌, ◌≤◌, Bool, true, false, List, [], ◌∷◌, length, refl, sym, ap, ◌∙◌, arith, length-append, Object}
use Rattle.shr_base.specs.declared.journals.Entry.{Entry}
use Rattle.shr_base.specs.declared.journals.Entry.TheVariants.{MovedIn, Closed}
use Rattle.shr_model.specs.Items.{step, IsOutcome, is_closing, is_closed}
use Rattle.shr_model.proofs.ItemsLaws.{HasJournal_push}
use Rattle.shr_model.proofs.ListLaws.{is_closed_push, is_moved_in, step_alike, IsOutcome_alike, HasJournal_moved}
use Rattle.shr_list.specs.Listed.{Listed, IsKept}
use Rattle.shr_list.specs.Answers.{ListGains, HasRoom}

-- an entry that neither closes the list nor moves objects in
pub kept_taken : (closed now : Bool) (old new : Listed) (e : Entry) → IsKept closed old → now ≡ closed → is_closed old.entries ≡ false → HasRoom old [] e → ListGains old new [] e
    → is_closing e ≡ false → is_moved_in e ≡ false → IsKept now new
kept_taken closed now old new e kept same was_open room gains opens moves =
    let more : length new.entries ≡ length old.entries + 1 = ap length gains.entries ∙ length-append old.entries (e ∷ []) in
    let fits : length new.items ≤ old.most_items = rw gains.items room.items in
    let one : (moved : List Object) → (step moved old.items e ≡ new.items) × IsOutcome moved old.items e =
    λ moved. (step_alike moved old.items e moves ∙ sym gains.items, IsOutcome_alike moved old.items e moves gains.outcome) in
    record {
      flag = same ∙ kept.flag ∙ was_open ∙ sym (ap is_closed gains.entries ∙ is_closed_push old.entries e ∙ rw (was_open, opens) refl);
      sound = record {
        journal = rw gains.entries (HasJournal_push old.entries old.items e new.items kept.sound.journal was_open one);
        entries = omega (arith, room.entries, gains.most_entries);
        open_entries = λ _. omega (arith, room.entries, gains.most_entries);
        items = omega (arith, gains.most_items);
        items_limit = rw gains.most_items kept.sound.items_limit;
        entries_limit = rw gains.most_entries kept.sound.entries_limit;
      };
    }

-- the list of a parent into which these objects are moved
pub kept_moved : (closed now : Bool) (old new : Listed) (given : List Object) (child : ℕ) → IsKept closed old → now ≡ closed → is_closed old.entries ≡ false
    → HasRoom old given (MovedIn child (length given)) → ListGains old new given (MovedIn child (length given)) → IsKept now new
kept_moved closed now old new given child kept same was_open room gains =
    let more : length new.entries ≡ length old.entries + 1 = ap length gains.entries ∙ length-append old.entries (MovedIn child (length given) ∷ []) in
    let fits : length new.items ≤ old.most_items = rw gains.items room.items in
    record {
      flag = same ∙ kept.flag ∙ was_open ∙ sym (ap is_closed gains.entries ∙ is_closed_push old.entries (MovedIn child (length given)) ∙ rw was_open refl);
      sound = record {
        journal = rw (gains.entries, gains.items) (HasJournal_moved old.entries old.items given child kept.sound.journal was_open);
        entries = omega (arith, room.entries, gains.most_entries);
        open_entries = λ _. omega (arith, room.entries, gains.most_entries);
        items = omega (arith, gains.most_items);
        items_limit = rw gains.most_items kept.sound.items_limit;
        entries_limit = rw gains.most_entries kept.sound.entries_limit;
      };
    }

-- the list that is closed
pub kept_closed : (closed now : Bool) (old new : Listed) → IsKept closed old → now ≡ true → is_closed old.entries ≡ false → ListGains old new [] Closed → IsKept now new
kept_closed closed now old new kept same was_open gains =
    let more : length new.entries ≡ length old.entries + 1 = ap length gains.entries ∙ length-append old.entries (Closed ∷ []) in
    let none : length new.items ≡ 0 = ap length gains.items in
    let ends : is_closed new.entries ≡ true = ap is_closed gains.entries ∙ is_closed_push old.entries Closed ∙ rw was_open refl in
    let few = kept.sound.open_entries was_open in
    record {
      flag = same ∙ sym ends;
      sound = record {
        journal = rw (gains.entries, gains.items) (HasJournal_push old.entries old.items Closed [] kept.sound.journal was_open (λ moved. (refl, tt)));
        entries = omega (arith, few, gains.most_entries);
        open_entries = λ o. absurd (cc);
        items = omega arith;
        items_limit = rw gains.most_items kept.sound.items_limit;
        entries_limit = rw gains.most_entries kept.sound.entries_limit;
      };
    }
