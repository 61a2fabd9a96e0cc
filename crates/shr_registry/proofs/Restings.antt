-- SPDX-License-Identifier: GPL-2.0-only
-- A seat is as free after a call as it was before.
use Rattle.shr_registry.proofs.Common.{◌≡◌, ℕ, List, sym, refl, subst, ◌∙◌, Serial, PoolEntry, View, Shape, Gained, Setting, RegisterAnswer, Brings, IsFree, FindGives, RegisterGives, UnregisterGives, with_put, StaysFree}
use Rattle.shr_registry.specs.declared.answers.FindAnswer.TheVariants as find
use Rattle.shr_registry.specs.declared.answers.RegisterAnswer.TheVariants as register
use Rattle.shr_registry.specs.declared.answers.UnregisterAnswer.{UnregisterAnswer}
use Rattle.shr_registry.specs.declared.answers.UnregisterAnswer.TheVariants as unregister

stays : (g : Gained) (v w : View) → IsFree w → Brings v w g → StaysFree v w
stays g v w f a = record { held = f.held; owner = f.owner; owed = a.owed; standing = a.adds.standing }

-- after `register` a free seat is free
pub stays_registered : (key : Setting) (v w : View) (decl gives : ℕ) (pool : List PoolEntry) (answer : RegisterAnswer) → RegisterGives key v decl pool gives answer w → StaysFree v w
stays_registered key v w decl gives pool (register.AlreadyRegistered entry) r = stays _ v w r.free r.gains
stays_registered key v w decl gives pool (register.NoId entry) r = stays _ v w r.misses.free r.misses.gains
stays_registered key v w decl gives pool register.Memory r = stays _ v w r.free r.gains
stays_registered key v w decl gives pool (register.Registered id entry) r = stays _ v w r.free r.gains

-- after `unregister` a free seat is free
pub stays_unregistered : (shape : Shape) (v w : View) (decl : ℕ) (by : Serial) (answer : UnregisterAnswer) → UnregisterGives shape v decl by answer w → StaysFree v w
stays_unregistered shape v w decl by (unregister.NoCache entry) r = stays _ v w r.free r.gains
stays_unregistered shape v w decl by unregister.Memory r = stays _ v w r.free r.gains
stays_unregistered shape v w decl by (unregister.Freed id entry from to objects) r = stays _ v w r.free r.gains
stays_unregistered shape v w decl by (unregister.Half id entry from to objects why) r = stays _ v w r.free r.gains

-- a reference that was found and given back
pub stays_put : (shape : Shape) (v w z : View) (decl gives id number entry : ℕ) (pool : List PoolEntry) → FindGives shape v decl pool gives (find.Held id number entry) w → z ≡ with_put w → StaysFree v z
stays_put shape v w z decl gives id number entry pool r is = subst (StaysFree v) (sym is) (record { held = refl; owner = r.holds.owner; owed = r.gains.owed; standing = r.gains.adds.standing })

-- after `find` met no cache a free seat is free
pub stays_missed : (shape : Shape) (v w : View) (decl gives entry : ℕ) (pool : List PoolEntry) → FindGives shape v decl pool gives (find.NoCache entry) w → StaysFree v w
stays_missed shape v w decl gives entry pool r = stays _ v w r.free r.gains

-- after `find` met no number a free seat is free
pub stays_worn : (shape : Shape) (v w : View) (decl gives : ℕ) (pool : List PoolEntry) (s : Rattle.shr_base.specs.declared.replies.Spent.Spent) → FindGives shape v decl pool gives (find.Worn s) w → StaysFree v w
stays_worn shape v w decl gives pool s r = stays _ v w r.free r.gains

pub stays_none : (v : View) → IsFree v → StaysFree v v
stays_none v f = record { held = f.held; owner = f.owner; owed = λ k h. h; standing = refl }

pub stays_then : (u v w : View) → StaysFree u v → StaysFree v w → StaysFree u w
stays_then u v w a b = record { held = b.held; owner = b.owner; owed = λ k h. a.owed k (b.owed k h); standing = b.standing ∙ a.standing }

pub free_still : (v w : View) → StaysFree v w → IsFree w
free_still v w s = record { held = s.held; owner = s.owner }
