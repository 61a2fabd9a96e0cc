-- SPDX-License-Identifier: GPL-2.0-only
-- What the table of replies says of entries that replies cite.
use Rattle.shr_audit_replies.proofs.Common.{◌≡◌, ℕ, true, false, List, Option, Some, None, refl, sym, subst, ◌∙◌, slice_get, Serial, At, Entry, Add, Look, Drop, Pin, Reply, Command, Get, Family, by_of, cited_by, Cites, IsReply, MayReply, On, Put, Del, SetPin, LendsValue, some_injective}
use Rattle.shr_base.specs.declared.journals.DropKind.TheVariants as kind
use Rattle.shr_base.specs.declared.replies.Reply.TheVariants as reply

-- an entry stands where it is cited, and is the command's own
pub record Own (family : Family) (a : At) (by : Serial) : Type 0 where
  pub entry : Entry
  pub stands : slice_get (family a.place) a.entry ≡ Some entry
  pub by_is : by_of entry ≡ Some by

from_cites : (family : Family) (c : At) (id node : ℕ) (e : Entry) (by : Serial) → by_of e ≡ Some by → Cites family c id node e → Own family c by
from_cites family c id node e by own h = record { entry = e; stands = h.stands; by_is = own }

-- ---- each reply that cites

of_added : (parents : List ℕ) (family : Family) (by : Serial) (c : Command) (found : Option ℕ) (a : At) → MayReply parents family by c found (reply.Added a) → Own family a by
of_added parents family by (Put t k v) (Some id) a h = from_cites family a id t.node (Add by t.group true k v) by refl h
of_added parents family by (On t k Get) (Some id) a h = absurd h
of_added parents family by c (Some id) a h = absurd h
of_added parents family by (On t k Get) None a h = absurd h
of_added parents family by c None a h = absurd h

of_exists : (parents : List ℕ) (family : Family) (by : Serial) (c : Command) (found : Option ℕ) (a : At) → MayReply parents family by c found (reply.Exists a) → Own family a by
of_exists parents family by (Put t k v) (Some id) a h = from_cites family a id t.node (Add by t.group false k v) by refl h
of_exists parents family by (On t k Get) (Some id) a h = absurd h
of_exists parents family by c (Some id) a h = absurd h
of_exists parents family by (On t k Get) None a h = absurd h
of_exists parents family by c None a h = absurd h

of_hit : (parents : List ℕ) (family : Family) (by : Serial) (c : Command) (found : Option ℕ) (a : At) (value : List ℕ) → MayReply parents family by c found (reply.Hit a value) → Own family a by
of_hit parents family by (On t k Get) (Some id) a value h = from_cites family a id t.node (Look by t.group k true) by refl h
of_hit parents family by c (Some id) a value h = absurd h
of_hit parents family by (On t k Get) None a value h = absurd h
of_hit parents family by c None a value h = absurd h

of_miss : (parents : List ℕ) (family : Family) (by : Serial) (c : Command) (found : Option ℕ) (a : At) → MayReply parents family by c found (reply.Miss a) → Own family a by
of_miss parents family by (On t k Get) (Some id) a h = from_cites family a id t.node (Look by t.group k false) by refl h
of_miss parents family by (On t k Del) (Some id) a h = from_cites family a id t.node (Drop by t.group k kind.Miss) by refl h
of_miss parents family by (On t k (SetPin p)) (Some id) a h = from_cites family a id t.node (Pin by t.group k p false) by refl h
of_miss parents family by c (Some id) a h = absurd h
of_miss parents family by (On t k Get) None a h = absurd h
of_miss parents family by c None a h = absurd h

of_dropped : (parents : List ℕ) (family : Family) (by : Serial) (c : Command) (found : Option ℕ) (a : At) → MayReply parents family by c found (reply.Dropped a) → Own family a by
of_dropped parents family by (On t k Del) (Some id) a h = from_cites family a id t.node (Drop by t.group k kind.Dropped) by refl h
of_dropped parents family by c (Some id) a h = absurd h
of_dropped parents family by (On t k Get) None a h = absurd h
of_dropped parents family by c None a h = absurd h

of_pinned : (parents : List ℕ) (family : Family) (by : Serial) (c : Command) (found : Option ℕ) (a : At) → MayReply parents family by c found (reply.Pinned a) → Own family a by
of_pinned parents family by (On t k Del) (Some id) a h = from_cites family a id t.node (Drop by t.group k kind.Pinned) by refl h
of_pinned parents family by c (Some id) a h = absurd h
of_pinned parents family by (On t k Get) None a h = absurd h
of_pinned parents family by c None a h = absurd h

of_done : (parents : List ℕ) (family : Family) (by : Serial) (c : Command) (found : Option ℕ) (a : At) → MayReply parents family by c found (reply.Done a) → Own family a by
of_done parents family by (On t k (SetPin p)) (Some id) a h = from_cites family a id t.node (Pin by t.group k p true) by refl h
of_done parents family by c (Some id) a h = absurd h
of_done parents family by (On t k Get) None a h = absurd h
of_done parents family by c None a h = absurd h

here : (family : Family) (c a : At) (by : Serial) → ◌≡◌ {A = Option At} (Some c) (Some a) → Own family c by → Own family a by
here family c a by e h = subst (λ (x : At). Own family x by) (some_injective c a e) h

-- what a reply cites is the command's own entry
pub own_cited : (parents : List ℕ) (family : Family) (by : Serial) (c : Command) (found : Option ℕ) (x : Reply) (a : At) → MayReply parents family by c found x → cited_by x ≡ Some a → Own family a by
own_cited parents family by c found (reply.Added b) a h e = here family b a by e (of_added parents family by c found b h)
own_cited parents family by c found (reply.Exists b) a h e = here family b a by e (of_exists parents family by c found b h)
own_cited parents family by c found (reply.Hit b value) a h e = here family b a by e (of_hit parents family by c found b value h)
own_cited parents family by c found (reply.Miss b) a h e = here family b a by e (of_miss parents family by c found b h)
own_cited parents family by c found (reply.Dropped b) a h e = here family b a by e (of_dropped parents family by c found b h)
own_cited parents family by c found (reply.Pinned b) a h e = here family b a by e (of_pinned parents family by c found b h)
own_cited parents family by c found (reply.Done b) a h e = here family b a by e (of_done parents family by c found b h)
own_cited parents family by c found x a h e = absurd (cc)

-- ---- the value of a hit

-- a reply is one that its command may have, if the value of a hit is the one lent
pub whole : (parents : List ℕ) (family : Family) (by : Serial) (c : Command) (found : Option ℕ) (x : Reply) → MayReply parents family by c found x
    → ((a : At) (value key : List ℕ) (birth : ℕ) → x ≡ reply.Hit a value → slice_get (family a.place) a.entry ≡ Some (Look by birth key true) → LendsValue parents family a birth key value)
    → IsReply parents family by c found x
whole parents family by (On t k Get) (Some id) (reply.Hit a value) m lends = (m, lends a value k t.group refl m.stands)
whole parents family by (On t k Get) (Some id) x m lends = m
whole parents family by (On t k Get) None x m lends = m
whole parents family by c found x m lends = m

-- the same of one that it may have: it may, whatever value a hit lends
pub without_value : (parents : List ℕ) (family : Family) (by : Serial) (c : Command) (found : Option ℕ) (x : Reply) → IsReply parents family by c found x → MayReply parents family by c found x
without_value parents family by (On t k Get) (Some id) (reply.Hit a value) h = h.0
without_value parents family by (On t k Get) (Some id) x h = h
without_value parents family by (On t k Get) None x h = h
without_value parents family by c found x h = h

-- and the value of a hit is the one lent
pub lent : (parents : List ℕ) (family : Family) (by : Serial) (c : Command) (found : Option ℕ) (a : At) (value key : List ℕ) (birth : ℕ) → IsReply parents family by c found (reply.Hit a value)
    → slice_get (family a.place) a.entry ≡ Some (Look by birth key true) → LendsValue parents family a birth key value
lent parents family by (On t k Get) (Some id) a value key birth h stands =
    let same : ◌≡◌ {A = Entry} (Look by t.group k true) (Look by birth key true) = some_injective (Look by t.group k true) (Look by birth key true) (sym h.0.stands ∙ stands) in
    let group : t.group ≡ birth = cc in
    let name : k ≡ key = cc in
    subst (λ (b : ℕ). LendsValue parents family a b key value) group (subst (λ (y : List ℕ). LendsValue parents family a t.group y value) name h.1)
lent parents family by c (Some id) a value key birth h stands = absurd h
lent parents family by (On t k Get) None a value key birth h stands = absurd h
lent parents family by c None a value key birth h stands = absurd h
