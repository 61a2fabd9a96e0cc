-- SPDX-License-Identifier: GPL-2.0-only
-- The entries of the journal of the tree against the table of the answers that cite them.
use Rattle.shr_audit_reasons.proofs.Common.{◌≡◌, ℕ, Bool, true, List, length, Option, Some, None, refl, sym, ap, subst, ◌∙◌, slice_get, Decides, IsSomeAnd, slice_get_within, Serial, Reply, TreeEntry, Begin, Done, Script, Report, command_at, reply_at, serial_of, IsTreeNumbered, EachItem, Cited, Never, Once, Often, AreCited, AnswerCites, CitesNow, TellsCited, cited_in, IsBeginCited, IsDoneNotedOnce, IsMadeNotedOnce, is_cited, is_once, Made, AreBeginsCaused, AreDonesCaused, AreMadesCaused}
use Rattle.shr_laws.specs.Causes.{IsOffline, MayHaveBegun}
use Rattle.shr_audit_reasons.specs.declared.cites.What.TheVariants as what

-- there is just one of which it is so
record IsOne (P : Serial → Type 0) : Type 0 where
  pub by : Serial
  pub so : P by
  pub once : (x : Serial) → P x → x ≡ by

one_of : (P : Serial → Type 0) (c : Cited) → TellsCited P c → is_once c ≡ true → IsOne P
one_of P Never t e = absurd cc
one_of P (Once w k) t e = record { by = serial_of w k; so = t.0; once = t.1 }
one_of P (Often w k others) t e = absurd cc

of_one : (P : Serial → Type 0) (c : Cited) → TellsCited P c → IsOne P → is_once c ≡ true
of_one P Never t o = absurd (t o.by o.so)
of_one P (Once w k) t o = refl
of_one P (Often w k others) t o = let y = t.two in absurd (y.1 (o.once y.0 y.2 ∙ sym (o.once (serial_of w k) t.so)))

-- there is one
pub some_of : (P : Serial → Type 0) (c : Cited) → TellsCited P c → is_cited c ≡ true → (by : Serial) × P by
some_of P Never t e = absurd cc
some_of P (Once w k) t e = (serial_of w k, t.0)
some_of P (Often w k others) t e = (serial_of w k, t.so)

pub of_some : (P : Serial → Type 0) (c : Cited) → TellsCited P c → (by : Serial) → P by → is_cited c ≡ true
of_some P Never t by p = absurd (t by p)
of_some P (Once w k) t by p = refl
of_some P (Often w k others) t by p = refl

-- entries by their kinds
done_case : (table : List Cited) (n : ℕ) (e : TreeEntry) → ((group : ℕ) → e ≡ Done group → is_once (cited_in table n) ≡ true) → IsDoneNotedOnce table n e
done_case table n (Begin group) h = tt
done_case table n (Done group) h = h group refl
done_case table n (Made group) h = tt

made_case : (table : List Cited) (n : ℕ) (e : TreeEntry) → ((group : ℕ) → e ≡ Made group → is_once (cited_in table n) ≡ true) → IsMadeNotedOnce table n e
made_case table n (Begin group) h = tt
made_case table n (Done group) h = tt
made_case table n (Made group) h = h group refl

begin_case : (table : List Cited) (e : TreeEntry) → ((group : ℕ) → e ≡ Begin group → is_cited (cited_in table group) ≡ true) → IsBeginCited table e
begin_case table (Begin group) h = h group refl
begin_case table (Done group) h = tt
begin_case table (Made group) h = tt

pub dones_of : (s : Script) (r : Report) (table : List Cited) (b : Bool) → AreCited s r what.Done (length r.tree.items) table
    → Decides b ((n : ℕ) (e : TreeEntry) → slice_get r.tree.items n ≡ Some e → IsDoneNotedOnce table n e) → Decides b (AreDonesCaused r)
dones_of s r table b cited d = (
  λ t n group at. (let o = one_of (λ x. AnswerCites s r what.Done n x) (cited_in table n) (cited.each n (slice_get_within r.tree.items n (Done group) at)) (d.0 t n (Done group) at) in
      record { by = o.by; cited = o.so; once = o.once }),
  λ all. d.1 (λ n e at. done_case table n e (λ group is. (let o = all n group (at ∙ ap (λ (x : TreeEntry). Some x) is) in
      of_one (λ x. AnswerCites s r what.Done n x) (cited_in table n) (cited.each n (slice_get_within r.tree.items n e at)) (record { by = o.by; so = o.cited; once = o.once })))),
)

pub mades_of : (s : Script) (r : Report) (table : List Cited) (b : Bool) → AreCited s r what.Made (length r.tree.items) table
    → Decides b ((n : ℕ) (e : TreeEntry) → slice_get r.tree.items n ≡ Some e → IsMadeNotedOnce table n e) → Decides b (AreMadesCaused r)
mades_of s r table b cited d = (
  λ t n group at. (let o = one_of (λ x. AnswerCites s r what.Made n x) (cited_in table n) (cited.each n (slice_get_within r.tree.items n (Made group) at)) (d.0 t n (Made group) at) in
      record { by = o.by; cited = o.so; once = o.once }),
  λ all. d.1 (λ n e at. made_case table n e (λ group is. (let o = all n group (at ∙ ap (λ (x : TreeEntry). Some x) is) in
      of_one (λ x. AnswerCites s r what.Made n x) (cited_in table n) (cited.each n (slice_get_within r.tree.items n e at)) (record { by = o.by; so = o.cited; once = o.once })))),
)

-- an `offline` that may have begun, by its reply
pub begun_of : (s : Script) (r : Report) (by : Serial) (group : ℕ) → AnswerCites s r what.Begun group by → IsOffline s r by group MayHaveBegun
begun_of s r by group c = there (reply_at r by) refl c
  where
    there : (o : Option Reply) → reply_at r by ≡ o → IsSomeAnd o (λ x. CitesNow r what.Begun (command_at s by) x group) → IsOffline s r by group MayHaveBegun
    there None e h = absurd h
    there (Some x) e h = record { command_is = h.0; answer = subst (λ (o : Option Reply). IsSomeAnd o MayHaveBegun) (sym e) h.1 }

pub of_begun : (s : Script) (r : Report) (by : Serial) (group : ℕ) → IsOffline s r by group MayHaveBegun → AnswerCites s r what.Begun group by
of_begun s r by group h = there (reply_at r by) h.answer
  where
    there : (o : Option Reply) → IsSomeAnd o MayHaveBegun → IsSomeAnd o (λ x. CitesNow r what.Begun (command_at s by) x group)
    there None a = a
    there (Some x) a = (h.command_is, a)

pub begins_of : (s : Script) (r : Report) (table : List Cited) (b : Bool) → EachItem IsTreeNumbered r.tree.items → AreCited s r what.Begun 65536 table
    → Decides b ((n : ℕ) (e : TreeEntry) → slice_get r.tree.items n ≡ Some e → IsBeginCited table e) → Decides b (AreBeginsCaused s r)
begins_of s r table b fits cited d = (
  λ t n group at. (let o = some_of (λ x. AnswerCites s r what.Begun group x) (cited_in table group) (cited.each group (fits n (Begin group) at)) (d.0 t n (Begin group) at) in
      (o.0, begun_of s r o.0 group o.1)),
  λ all. d.1 (λ n e at. begin_case table e (λ group is. (let here : slice_get r.tree.items n ≡ Some (Begin group) = at ∙ ap (λ (x : TreeEntry). Some x) is in
      let o = all n group here in
      of_some (λ x. AnswerCites s r what.Begun group x) (cited_in table group) (cited.each group (fits n (Begin group) here)) o.0 (of_begun s r o.0 group o.1)))),
)
