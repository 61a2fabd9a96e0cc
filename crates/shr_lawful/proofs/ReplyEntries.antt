-- SPDX-License-Identifier: GPL-2.0-only
-- Which entry a reply cites, by its command.
use Rattle.shr_lawful.proofs.Common.{◌≡◌, ℕ, Bool, List, refl, sym, subst, ◌∙◌, slice_get, Option, Some, None, same_Some, none-some, Serial, At, DropKind, Entry, Add, Look, Drop, Pin, Reply, Command, Put, On, Get, Del, SetPin, Family, cited_by, IsReply, IsReplyTo}
use Rattle.shr_base.specs.declared.replies.Reply.TheVariants as reply
use Rattle.shr_laws.proofs.QuietSweep.{sweep_cites}

-- the entry is one that a command makes
abbrev pub IsEntryFor : Serial → Command → Entry → Type 0
IsEntryFor by (Put to key value) e = (added : Bool) × (e ≡ Add by to.group added key value)
IsEntryFor by (On to key Get) e = (hit : Bool) × (e ≡ Look by to.group key hit)
IsEntryFor by (On to key Del) e = (kind : DropKind) × (e ≡ Drop by to.group key kind)
IsEntryFor by (On to key (SetPin pinned)) e = (hit : Bool) × (e ≡ Pin by to.group key pinned hit)
IsEntryFor by c e = ⊥

same_entry : (family : Family) (c : At) (e d : Entry) → slice_get (family c.place) c.entry ≡ Some e → slice_get (family c.place) c.entry ≡ Some d → e ≡ d
same_entry family c e d a b = same_Some e d (sym a ∙ b)

-- the entry that an answer cites is one that its command makes
pub entry_for : (parents : List ℕ) (family : Family) (by : Serial) (x : Reply) (c : Command) (found : Option ℕ) (at : At) (e : Entry) → IsReply parents family by c found x → cited_by x ≡ Some at → slice_get (family at.place) at.entry ≡ Some e → IsEntryFor by c e
entry_for parents family by (reply.Added a) (Put to key value) (Some id) at e h cites stands = (_, sym (same_entry family a _ e h.stands (subst (λ (z : At). slice_get (family z.place) z.entry ≡ Some e) (sym (same_Some a at cites)) stands)))
entry_for parents family by (reply.Added a) c None at e h cites stands = absurd h
entry_for parents family by (reply.Added a) c (Some id) at e h cites stands = absurd h
entry_for parents family by (reply.Exists a) (Put to key value) (Some id) at e h cites stands = (_, sym (same_entry family a _ e h.stands (subst (λ (z : At). slice_get (family z.place) z.entry ≡ Some e) (sym (same_Some a at cites)) stands)))
entry_for parents family by (reply.Exists a) c None at e h cites stands = absurd h
entry_for parents family by (reply.Exists a) c (Some id) at e h cites stands = absurd h
entry_for parents family by (reply.Hit a lent) (On to key Get) (Some id) at e h cites stands = (_, sym (same_entry family a _ e h.0.stands (subst (λ (z : At). slice_get (family z.place) z.entry ≡ Some e) (sym (same_Some a at cites)) stands)))
entry_for parents family by (reply.Hit a lent) c None at e h cites stands = absurd h
entry_for parents family by (reply.Hit a lent) c (Some id) at e h cites stands = absurd h
entry_for parents family by (reply.Miss a) (On to key Get) (Some id) at e h cites stands = (_, sym (same_entry family a _ e h.stands (subst (λ (z : At). slice_get (family z.place) z.entry ≡ Some e) (sym (same_Some a at cites)) stands)))
entry_for parents family by (reply.Miss a) (On to key Del) (Some id) at e h cites stands = (_, sym (same_entry family a _ e h.stands (subst (λ (z : At). slice_get (family z.place) z.entry ≡ Some e) (sym (same_Some a at cites)) stands)))
entry_for parents family by (reply.Miss a) (On to key (SetPin pinned)) (Some id) at e h cites stands = (_, sym (same_entry family a _ e h.stands (subst (λ (z : At). slice_get (family z.place) z.entry ≡ Some e) (sym (same_Some a at cites)) stands)))
entry_for parents family by (reply.Miss a) c None at e h cites stands = absurd h
entry_for parents family by (reply.Miss a) c (Some id) at e h cites stands = absurd h
entry_for parents family by (reply.Dropped a) (On to key Del) (Some id) at e h cites stands = (_, sym (same_entry family a _ e h.stands (subst (λ (z : At). slice_get (family z.place) z.entry ≡ Some e) (sym (same_Some a at cites)) stands)))
entry_for parents family by (reply.Dropped a) c None at e h cites stands = absurd h
entry_for parents family by (reply.Dropped a) c (Some id) at e h cites stands = absurd h
entry_for parents family by (reply.Pinned a) (On to key Del) (Some id) at e h cites stands = (_, sym (same_entry family a _ e h.stands (subst (λ (z : At). slice_get (family z.place) z.entry ≡ Some e) (sym (same_Some a at cites)) stands)))
entry_for parents family by (reply.Pinned a) c None at e h cites stands = absurd h
entry_for parents family by (reply.Pinned a) c (Some id) at e h cites stands = absurd h
entry_for parents family by (reply.Done a) (On to key (SetPin pinned)) (Some id) at e h cites stands = (_, sym (same_entry family a _ e h.stands (subst (λ (z : At). slice_get (family z.place) z.entry ≡ Some e) (sym (same_Some a at cites)) stands)))
entry_for parents family by (reply.Done a) c None at e h cites stands = absurd h
entry_for parents family by (reply.Done a) c (Some id) at e h cites stands = absurd h
entry_for parents family by x c found at e h cites stands = absurd (none-some at cites)

-- it is the answer to a command, since that to a sweep cites none
pub entry_asked : (parents : List ℕ) (family : Family) (by : Serial) (x : Reply) (o : Option Command) (found : Option ℕ) (at : At) (e : Entry) → IsReplyTo parents family by o found x → cited_by x ≡ Some at → slice_get (family at.place) at.entry ≡ Some e
    → (c : Command) × (o ≡ Some c) × IsEntryFor by c e
entry_asked parents family by x None found at e h cites stands = absurd (none-some at (sym (sweep_cites x h.1) ∙ cites))
entry_asked parents family by x (Some c) found at e h cites stands = (c, refl, entry_for parents family by x c found at e h cites stands)
