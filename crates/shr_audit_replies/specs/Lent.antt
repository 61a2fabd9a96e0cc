-- SPDX-License-Identifier: GPL-2.0-only
-- The values that hits lend, against those that Looks found. No public clause cites this.
use Rattle.std.specs.Prelude.{◌≡◌, ℕ, ◌==◌, true, List, [], ◌∷◌, slice_get, take, drop, Option, Some, None, cond}
use Rattle.shr_base.specs.declared.objects.Object.{Object}
use Rattle.shr_base.specs.declared.places.Place.{Place}
use Rattle.shr_base.specs.declared.places.Serial.{Serial}
use Rattle.shr_base.specs.declared.journals.Entry.{Entry}
use Rattle.shr_base.specs.declared.journals.Entry.TheVariants.{Look}
use Rattle.shr_base.specs.declared.replies.Reply.TheVariants as reply
use Rattle.shr_model.specs.Items.{items_from}
use Rattle.shr_model.specs.MovedItems.{moved_from}
use Rattle.shr_audit_case.specs.declared.values.FoundValue.{FoundValue}
use Rattle.shr_audit_case.specs.Journals.{values_from}
use Rattle.shr_audit_case.specs.Values.{value_met}
use Rattle.shr_laws.specs.declared.report.Report.{Report}
use Rattle.shr_laws.specs.Parts.{at, journals_of, reply_at}
use Rattle.shr_laws.specs.ReplyTable.{LendsValue}

-- the value that the entry with this number found, if the first of these is its
abbrev pub value_first : ℕ → List FoundValue → Option (List ℕ)
value_first n [] = None
value_first n (v ∷ vs) = cond (v.entry == n) (Some v.value) None

-- those that later entries found
abbrev pub values_behind : ℕ → List FoundValue → List FoundValue
values_behind n [] = []
values_behind n (v ∷ vs) = cond (v.entry == n) vs (v ∷ vs)

-- a command whose hit cites this entry is lent the value that was found
abbrev pub IsLentTo : Report → Place → ℕ → Serial → Option (List ℕ) → Type 0
IsLentTo r place n by found = (value : List ℕ) → reply_at r by ≡ Some (reply.Hit (at place n) value) → found ≡ Some value

-- the command of a Look that hit is
abbrev pub IsLent : Report → Place → ℕ → Entry → Option (List ℕ) → Type 0
IsLent r place n (Look by birth key hit) found = hit ≡ true → IsLentTo r place n by found
IsLent r place n e found = Unit {0}

-- an entry of a journal lends what it meets there, where the MovedIn entries move these lists in turn
abbrev pub IsMetLent : Report → Place → List (List Object) → List Entry → ℕ → Entry → Type 0
IsMetLent r place moved entries n e = IsLent r place n e (value_met (items_from moved [] (take n entries)) e)

-- each entry does
abbrev pub AreMetLent : Report → Place → List (List Object) → List Entry → Type 0
AreMetLent r place moved entries = (n : ℕ) (e : Entry) → slice_get entries n ≡ Some e → IsMetLent r place moved entries n e

-- these are the values that the entries from this one on find
abbrev pub AreAhead : List (List Object) → List Entry → ℕ → List FoundValue → Type 0
AreAhead moved entries n rest = rest ≡ values_from n (moved_from moved (take n entries)) (items_from moved [] (take n entries)) (drop n entries)

-- an entry of a place lends the value of the object that is there before it
abbrev pub IsValueLent : List ℕ → Report → Place → ℕ → Entry → Type 0
IsValueLent parents r place n e = (by : Serial) (birth : ℕ) (key value : List ℕ) → e ≡ Look by birth key true
    → reply_at r by ≡ Some (reply.Hit (at place n) value) → LendsValue parents (journals_of r) (at place n) birth key value

-- each entry of a place does
abbrev pub AreValuesLentAt : List ℕ → Report → Place → Type 0
AreValuesLentAt parents r place = (n : ℕ) (e : Entry) → slice_get (journals_of r place) n ≡ Some e → IsValueLent parents r place n e
