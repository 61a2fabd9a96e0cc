-- SPDX-License-Identifier: GPL-2.0-only
-- What an answer of a list says of its items and of their number. No proof of this crate cites these: they are for callers.
use Rattle.shr_list.proofs.Common.{◌≡◌, ℕ, ◌+◌, ◌≤◌, Bool, List, [], ◌∷◌, ◌++◌, true, false, ap, ◌∙◌, arith, refl, length, length-append, length_scan, length_change_first, Object, marked_object, is_named, Policy, holds, fresh, if◌then◌else◌}
use Rattle.shr_base.specs.declared.log.Log.{Log}
use Rattle.shr_base.specs.declared.places.Serial.{Serial}
use Rattle.shr_list.specs.Answers.{ListAddGives, ListLookGives, ScanOfListGives}
use Rattle.shr_list.specs.Listed.{Listed}
use Rattle.shr_list.specs.declared.answers.AddAnswer.{AddAnswer}
use Rattle.shr_list.specs.declared.answers.AddAnswer.TheVariants as add
use Rattle.shr_list.specs.declared.answers.LookAnswer.{LookAnswer}
use Rattle.shr_list.specs.declared.answers.LookAnswer.TheVariants as look
use Rattle.shr_list.specs.declared.answers.ListScan.{ListScan}
use Rattle.shr_list.specs.declared.answers.ListScan.TheVariants as scan

-- what an add leaves, by whether an object of that name was there
if_there : (there : Bool) (items : List Object) (o : Object) → there ≡ true → (if there then items else items ++ o ∷ []) ≡ items
if_there true items o is = refl
if_there false items o is = absurd cc

if_new : (there : Bool) (items : List Object) (o : Object) → there ≡ false → (if there then items else items ++ o ∷ []) ≡ items ++ o ∷ []
if_new true items o is = absurd cc
if_new false items o is = refl

-- ---- adding

-- an object that was added stands at the tail, unmarked and unpinned
pub items-added : (old new : Listed) (o : Object) (n : ℕ) → ListAddGives old o (add.Added n) new → new.items ≡ old.items ++ fresh o.serial o.birth o.key o.value ∷ []
items-added old new o n gives = gives.1.gains.items ∙ if_new (holds o.birth o.key old.items) old.items (fresh o.serial o.birth o.key o.value) gives.0

-- then the list is longer by 1
pub length-added : (old new : Listed) (o : Object) (n : ℕ) → ListAddGives old o (add.Added n) new → length new.items ≡ length old.items + 1
length-added old new o n gives =
    ap (λ (os : List Object). length os) (items-added old new o n gives) ∙ length-append old.items (fresh o.serial o.birth o.key o.value ∷ [])

-- an object whose name is there changes no item
pub items-exists : (old new : Listed) (o : Object) (n : ℕ) → ListAddGives old o (add.Exists n) new → new.items ≡ old.items
items-exists old new o n gives = gives.1.gains.items ∙ if_there (holds o.birth o.key old.items) old.items (fresh o.serial o.birth o.key o.value) gives.0

-- a limit, a closed list and want of memory leave the list as it was
pub items-refused : (old new : Listed) (o : Object) (entries items : ℕ) → ListAddGives old o (add.Worn entries items) new → new ≡ old
items-refused old new o entries items gives = gives.same

pub items-closed : (old new : Listed) (o : Object) → ListAddGives old o add.Closed new → new ≡ old
items-closed old new o gives = gives.same

pub items-memory : (old new : Listed) (o back : Object) → ListAddGives old o (add.Memory back) new → new ≡ old
items-memory old new o back gives = gives.1.same

-- whatever is answered, the list is longer by at most 1
pub length-add : (old new : Listed) (o : Object) (answer : AddAnswer) → ListAddGives old o answer new → length new.items ≤ length old.items + 1
length-add old new o (add.Added n) gives = omega (arith, length-added old new o n gives)
length-add old new o (add.Exists n) gives = let same = ap (λ (os : List Object). length os) (items-exists old new o n gives) in omega (arith, same)
length-add old new o add.Closed gives = let same = ap (λ (l : Listed). length l.items) gives.same in omega (arith, same)
length-add old new o (add.Worn entries items) gives = let same = ap (λ (l : Listed). length l.items) gives.same in omega (arith, same)
length-add old new o (add.Memory back) gives = let same = ap (λ (l : Listed). length l.items) gives.1.same in omega (arith, same)

-- ---- looking

-- whatever a look answers, as many objects are there as before
pub length-look : (old new : Listed) (by : Serial) (birth : ℕ) (key : List ℕ) (answer : LookAnswer) → ListLookGives old by birth key answer new → length new.items ≡ length old.items
length-look old new by birth key (look.Hit n value) gives = ap (λ (os : List Object). length os) gives.1.gains.items ∙ length_change_first (is_named birth key) marked_object old.items
length-look old new by birth key (look.Miss n) gives = ap (λ (os : List Object). length os) gives.1.gains.items ∙ length_change_first (is_named birth key) marked_object old.items
length-look old new by birth key look.Closed gives = ap (λ (l : Listed). length l.items) gives.same
length-look old new by birth key (look.Worn entries items) gives = ap (λ (l : Listed). length l.items) gives.same
length-look old new by birth key look.Memory gives = ap (λ (l : Listed). length l.items) gives.same

-- ---- scanning

-- what a scan freed and what it left are as many as there were
pub length-scanned : (old new : Listed) (worker walk : ℕ) (policy : Policy) (asked n : ℕ) (freed : Log Object) (visits : ℕ) (stopped : Bool)
    → ScanOfListGives old worker walk policy asked (scan.Scanned n freed visits stopped) new → length freed.items + length new.items ≡ length old.items
length-scanned old new worker walk policy asked n freed visits stopped gives =
    let left = ap (λ (os : List Object). length os) gives.1.gains.items in
    let gone = ap (λ (os : List Object). length os) gives.0.removed in
    let parts = length_scan policy asked old.items in
    omega (arith, left, gone, parts)

-- whatever a scan answers, the list is no longer than it was
pub length-scan : (old new : Listed) (worker walk : ℕ) (policy : Policy) (asked : ℕ) (answer : ListScan) → ScanOfListGives old worker walk policy asked answer new → length new.items ≤ length old.items
length-scan old new worker walk policy asked (scan.Scanned n freed visits stopped) gives =
    let left = ap (λ (os : List Object). length os) gives.1.gains.items in
    let parts = length_scan policy asked old.items in
    omega (arith, left, parts)
length-scan old new worker walk policy asked scan.Closed gives = let same = ap (λ (l : Listed). length l.items) gives.same in omega (arith, same)
length-scan old new worker walk policy asked (scan.Worn entries items) gives = let same = ap (λ (l : Listed). length l.items) gives.same in omega (arith, same)
length-scan old new worker walk policy asked scan.Memory gives = let same = ap (λ (l : Listed). length l.items) gives.same in omega (arith, same)
