-- SPDX-License-Identifier: GPL-2.0-only
-- Replies about pools: the entries that they cite, and what they tell.
use Rattle.shr_lawful.proofs.UnitsCommon.{◌≡◌, ℕ, ◌+◌, ◌<◌, ◌≤◌, ◌⊎◌, ⊎_elim, true, false, List, [], ◌∷◌, ◌++◌, length, get_or, sym, refl, ap, subst, ◌∙◌, arith, slice_get, Option, Some, None, option_map, option_and_then, cases_lt, same_Some, none-some, slice_get_within, slice_get-get_or, PlainEntry, At, Place, Answered, Reply, Release, Grab, Script, IsPlaceOf, row_of, IsRecent, RoomMade, RoomView, part_at, with_known, with_entry, GrabAnswer, ReleaseAnswer, Sees, Makes, ReleaseGives, GrabGives, units, PlainState, no_state, IsPoolOf, Report, serial_of, commands_of, answers_of, reply_at, at, units_journal, units_cited, units_cited_at, settings_of, pool_sizes, home_of, home_room, units_release_reply, units_grab_reply, IsOther, UnitsStep, units_steps_of, AreUnits, answer_at}
use Rattle.shr_base.specs.declared.journals.PlainEntry.TheVariants as entry
use Rattle.shr_base.specs.declared.replies.Reply.TheVariants as reply
use Rattle.shr_seats.proofs.RoomParts as parts
use Rattle.shr_seats.proofs.RoomTelling.{told_recent}
use Rattle.shr_plain.specs.declared.answers.GrabAnswer.TheVariants as grab
use Rattle.shr_plain.specs.declared.answers.ReleaseAnswer.TheVariants as release
use Rattle.shr_laws.specs.Swept.{IsSweepReply}
use Rattle.shr_laws.proofs.QuietSweep.{few_sweeps}
use Rattle.shr_lawful.proofs.UnitStepKinds.{Kind, released, grabbed, walked, idle}
use Rattle.shr_lawful.proofs.UnitLists.{IsIn, in_right, begins_in, each_in}
use Rattle.shr_lawful.proofs.UnitPooling.{IsHome, is_home}
use Rattle.shr_lawful.proofs.UnitAlong.{later_begins}
use Rattle.shr_lawful.proofs.UnitMaking.{made_at, kind_at, longer_made}
use Rattle.shr_lawful.proofs.UnitPrinting.{units_there}

-- what a call left in its room
pub sees_part : (i : ℕ) (t u : PlainState) (journal : List PlainEntry) → Sees i t u journal → part_at u.rooms i ≡ with_known (part_at t.rooms i) journal
sees_part i t u journal sees = ap (λ (v : PlainState). part_at v.rooms i) sees.state ∙ parts.here t.rooms i (with_known (part_at t.rooms i) journal)

pub makes_part : (i : ℕ) (t u : PlainState) (journal : List PlainEntry) (e : PlainEntry) → Makes i t u journal e → part_at u.rooms i ≡ with_entry (part_at t.rooms i) journal e
makes_part i t u journal e makes = ap (λ (v : PlainState). part_at v.rooms i) makes.state ∙ parts.here t.rooms i (with_entry (part_at t.rooms i) journal e)

-- an answer to a sweep cites no entry of a pool
sweep_cites : (x : Reply) → IsSweepReply x → units_cited x ≡ None
sweep_cites (reply.Swept jobs freed) h = refl
sweep_cites (reply.WalkMemory freed) h = refl
sweep_cites x h = absurd h

-- a reply that says nothing of a pool cites nothing there
other_cites : (x : Reply) (c : At) → IsOther x → units_cited x ≡ Some c → ⊥
other_cites (reply.Released p n e) c is h = is
other_cites (reply.Grabbed p n e) c is h = is
other_cites (reply.Bare p n e) c is h = is
other_cites (reply.Full p n e f) c is h = is
other_cites x c is h = none-some c h

module _ (s : Script) (r : Report) (workers : List (List UnitsStep)) (run : AreUnits s r workers) where
  pub journal_at : (p : Place) → IsPlaceOf (pool_sizes s) p → units_journal r p ≡ run.journal (row_of (pool_sizes s) p)
  journal_at p there = units_there (pool_sizes s) refl run.journal r run.units p there

  -- an entry that a reply cites was made by its command, after all that the worker had done and seen there
  pub record CitesAt (x : UnitsStep) (p : Place) (n : ℕ) : Type 0 where
    pub home : IsHome s p
    pub made : RoomMade PlainEntry
    pub among : IsIn made (made_at (row_of (pool_sizes s) p) x.after)
    pub number : made.number ≡ n
    pub recent : IsRecent (part_at x.before.rooms (row_of (pool_sizes s) p)) n

  cites_made : (x : UnitsStep) (node pool : ℕ) → IsPoolOf (settings_of s) (pool_sizes s) pool node → (journal : List PlainEntry) (e : PlainEntry) → Makes (home_room s pool node) x.before x.after journal e → (k : ℕ) → k ≡ length journal
      → (p : Place) (n : ℕ) → at (home_of s pool node) k ≡ at p n → CitesAt x p n
  cites_made x node pool there journal e makes k is p n same =
      let q : home_of s pool node ≡ p = ap (λ (a : At). a.place) same in
      let number : k ≡ n = ap (λ (a : At). a.entry) same in
      subst (λ (v : Place). CitesAt x v n) q (record {
        home = is_home s pool node there;
        made = record { number = length journal; entry = e };
        among = subst (λ (v : RoomView PlainEntry). IsIn (record { number = length journal; entry = e }) v.made) (sym (makes_part (home_room s pool node) x.before x.after journal e makes))
            (in_right (part_at x.before.rooms (home_room s pool node)).made (record { number = length journal; entry = e } ∷ []) (record { number = length journal; entry = e }) (0, refl));
        number = sym is ∙ number;
        recent = subst (IsRecent (part_at x.before.rooms (home_room s pool node))) (sym is ∙ number) (told_recent units journal (part_at x.before.rooms (home_room s pool node)) makes.told);
      })

  pub cites_at : (x : UnitsStep) → Kind s x.by x.command x.reply x.before x.after → (p : Place) (n : ℕ) → units_cited x.reply ≡ Some (at p n) → CitesAt x p n
  cites_at x (released node pool m is due did) p n h = by_answer did.answer (sym (ap units_cited did.told) ∙ h) did.gives
    where
      by_answer : (a : ReleaseAnswer) → units_cited (units_release_reply (home_of s pool node) a) ≡ Some (at p n) → ReleaseGives (home_of s pool node) (home_room s pool node) x.by m a x.before x.after → CitesAt x p n
      by_answer (release.Full entries free) e g = absurd (none-some _ e)
      by_answer (release.Worn spent) e g = absurd (none-some _ e)
      by_answer release.Memory e g = absurd (none-some _ e)
      by_answer (release.Released k) e g = cites_made x node pool did.there g.0 (entry.Release x.by m) g.1 k g.2 p n (same_Some (at (home_of s pool node) k) (at p n) e)
  cites_at x (grabbed node pool is due did) p n h = by_answer did.answer (sym (ap units_cited did.told) ∙ h) did.gives
    where
      by_answer : (a : GrabAnswer) → units_cited (units_grab_reply (home_of s pool node) a) ≡ Some (at p n) → GrabGives (home_of s pool node) (home_room s pool node) x.by a x.before x.after → CitesAt x p n
      by_answer (grab.Worn spent) e g = absurd (none-some _ e)
      by_answer grab.Memory e g = absurd (none-some _ e)
      by_answer (grab.Grabbed k) e g = cites_made x node pool did.there g.0 (entry.Grab x.by true) g.1 k g.3 p n (same_Some (at (home_of s pool node) k) (at p n) e)
      by_answer (grab.Bare k) e g = cites_made x node pool did.there g.0 (entry.Grab x.by false) g.1 k g.3 p n (same_Some (at (home_of s pool node) k) (at p n) e)
  cites_at x (walked job due is did) p n h = absurd (other_cites x.reply (at p n) is h)
  cites_at x (idle due is same) p n h = absurd (other_cites x.reply (at p n) is h)

  -- the step of an answer
  pub record Replied (worker k : ℕ) (x : Reply) : Type 0 where
    pub step : UnitsStep
    pub at : slice_get (units_steps_of workers worker) k ≡ Some step
    pub reply : step.reply ≡ x

  -- of one that is not to a sweep
  pub replied : (worker k : ℕ) (x : Reply) → reply_at r (serial_of worker k) ≡ Some x → (IsSweepReply x → ⊥) → Replied worker k x
  replied worker k x h own = by_answer (answer_at r (serial_of worker k)) refl
    where
      here : k < length (units_steps_of workers worker) → Replied worker k x
      here within =
          let d : UnitsStep = some_step (units_steps_of workers worker) (omega (arith, within)) in
          let at = slice_get-get_or (units_steps_of workers worker) k d within in
          record { step = get_or (units_steps_of workers worker) k d; at = at; reply = same_Some _ x (sym (run.each worker k (get_or (units_steps_of workers worker) k d) at).reply ∙ h) }
        where
          some_step : (xs : List UnitsStep) → 0 < length xs → UnitsStep
          some_step [] lt = absurd (omega (arith, lt))
          some_step (y ∷ xs) lt = y

      -- the answer behind those to the commands
      behind : (a : Answered) → answer_at r (serial_of worker k) ≡ Some a → length (units_steps_of workers worker) ≤ k → Replied worker k x
      behind a e le =
          let few = few_sweeps s.sweep (slice_get s.workers.items worker) in
          let many = run.answers worker in let same = run.commands worker in
          let last : length (commands_of s worker) ≡ k = omega (arith, slice_get_within (answers_of r worker) k a e, few, many, same, le) in
          let told : IsSweepReply a.reply = run.last worker a (ap (λ n. answer_at r (serial_of worker n)) last ∙ e) in
          absurd (own (subst IsSweepReply (same_Some a.reply x (sym (ap (option_map (λ (y : Answered). y.reply)) e) ∙ h)) told))

      by_answer : (o : Option Answered) → answer_at r (serial_of worker k) ≡ o → Replied worker k x
      by_answer None e = absurd (none-some x (sym (ap (option_map (λ (a : Answered). a.reply)) e) ∙ h))
      by_answer (Some a) e = ⊎_elim (λ within. here within) (λ le. behind a e le) (cases_lt k (length (units_steps_of workers worker)))

  pub record Cited (worker k : ℕ) (p : Place) (n : ℕ) : Type 0 where
    pub step : UnitsStep
    pub at : slice_get (units_steps_of workers worker) k ≡ Some step
    pub cites : CitesAt step p n

  pub cited_step : (worker k : ℕ) (p : Place) (n : ℕ) → units_cited_at r (serial_of worker k) ≡ Some (at p n) → Cited worker k p n
  cited_step worker k p n h = by_reply (reply_at r (serial_of worker k)) refl
    where
      by_reply : (o : Option Reply) → reply_at r (serial_of worker k) ≡ o → Cited worker k p n
      by_reply None e = absurd (none-some (at p n) (sym (ap (option_and_then units_cited) e) ∙ h))
      by_reply (Some x) e = let cites : units_cited x ≡ Some (at p n) = sym (ap (option_and_then units_cited) e) ∙ h in let t = replied worker k x e (λ is. none-some (at p n) (sym (sweep_cites x is) ∙ cites)) in record {
        step = t.step;
        at = t.at;
        cites = cites_at t.step (kind_at s r workers run worker k t.step t.at) p n (ap units_cited t.reply ∙ cites);
      }

  -- what a worker's reply cited it had made before each later step
  pub made_before : (worker k later : ℕ) (p : Place) (n : ℕ) → k < later → (c : Cited worker k p n) → (y : UnitsStep) → slice_get (units_steps_of workers worker) later ≡ Some y → (m : ℕ) → IsRecent (part_at y.before.rooms (row_of (pool_sizes s) p)) m → n < m
  made_before worker k later p n lt c y at_y m recent =
      let i = row_of (pool_sizes s) p in
      let among = begins_in (made_at i c.step.after) (made_at i y.before) c.cites.made (later_begins (made_at i) no_state (units_steps_of workers worker) (run.chained worker) (longer_made s r workers run worker i) k later c.step y lt c.at at_y) c.cites.among in
      let below = each_in (λ (z : RoomMade PlainEntry). z.number < m) (made_at i y.before) c.cites.made recent.made among in
      let number = c.cites.number in omega (arith, below, number)

  -- ---- replies
  pub rise : (worker k later : ℕ) (place : Place) (n m : ℕ) → k < later → units_cited_at r (serial_of worker k) ≡ Some (at place n) → units_cited_at r (serial_of worker later) ≡ Some (at place m) → n < m
  rise worker k later place n m lt a b = let c = cited_step worker k place n a in let d = cited_step worker later place m b in made_before worker k later place n lt c d.step d.at m d.cites.recent

  -- what a Full told
  record FullAt (x : UnitsStep) (p n entries : ℕ) : Type 0 where
    pub node : ℕ
    pub pool : ℕ
    pub there : IsPoolOf (settings_of s) (pool_sizes s) pool node
    pub place : (home_of s pool node).id ≡ p
    pub at_node : (home_of s pool node).node ≡ n
    pub recent : IsRecent (part_at x.before.rooms (home_room s pool node)) entries

  abbrev pool_in : Reply → ℕ
  pool_in (reply.Full p n entries free) = p
  pool_in x = 0

  abbrev node_in : Reply → ℕ
  node_in (reply.Full p n entries free) = n
  node_in x = 0

  abbrev entries_in : Reply → ℕ
  entries_in (reply.Full p n entries free) = entries
  entries_in x = 0

  abbrev IsFull : Reply → Type 0
  IsFull (reply.Full p n entries free) = Unit {0}
  IsFull x = ⊥

  full_at : (x : UnitsStep) → Kind s x.by x.command x.reply x.before x.after → (p n entries free : ℕ) → x.reply ≡ reply.Full p n entries free → FullAt x p n entries
  full_at x (released node pool m is due did) p n entries free h = by_answer did.answer (sym did.told ∙ h) did.gives
    where
      by_answer : (a : ReleaseAnswer) → units_release_reply (home_of s pool node) a ≡ reply.Full p n entries free → ReleaseGives (home_of s pool node) (home_room s pool node) x.by m a x.before x.after → FullAt x p n entries
      by_answer (release.Full es f) e g = record {
        node = node;
        pool = pool;
        there = did.there;
        place = ap pool_in e;
        at_node = ap node_in e;
        recent = subst (IsRecent (part_at x.before.rooms (home_room s pool node))) (sym g.2 ∙ ap entries_in e) (told_recent units g.0 (part_at x.before.rooms (home_room s pool node)) g.1.told);
      }
      by_answer (release.Worn spent) e g = absurd (subst IsFull (sym e) tt)
      by_answer release.Memory e g = absurd (subst IsFull (sym e) tt)
      by_answer (release.Released k) e g = absurd (subst IsFull (sym e) tt)
  full_at x (grabbed node pool is due did) p n entries free h = by_answer did.answer (sym did.told ∙ h)
    where
      by_answer : (a : GrabAnswer) → units_grab_reply (home_of s pool node) a ≡ reply.Full p n entries free → FullAt x p n entries
      by_answer (grab.Worn spent) e = absurd (subst IsFull (sym e) tt)
      by_answer grab.Memory e = absurd (subst IsFull (sym e) tt)
      by_answer (grab.Grabbed k) e = absurd (subst IsFull (sym e) tt)
      by_answer (grab.Bare k) e = absurd (subst IsFull (sym e) tt)
  full_at x (walked job due is did) p n entries free h = absurd (subst IsOther h is)
  full_at x (idle due is same) p n entries free h = absurd (subst IsOther h is)

  pub full : (worker k later : ℕ) (place : Place) (n entries free : ℕ) → k < later → units_cited_at r (serial_of worker k) ≡ Some (at place n)
      → reply_at r (serial_of worker later) ≡ Some (reply.Full place.id place.node entries free) → n < entries
  full worker k later place n entries free lt a b =
      let c = cited_step worker k place n a in
      let t = replied worker later (reply.Full place.id place.node entries free) b (λ is. is) in
      let f = full_at t.step (kind_at s r workers run worker later t.step t.at) place.id place.node entries free t.reply in
      let group = c.cites.home.there.group in
      let same : home_of s f.pool f.node ≡ place = λ i. record { id = f.place i; node = f.at_node i; group = (let z : 0 ≡ place.group = omega (arith, group) in z) i } in
      made_before worker k later place n lt c t.step t.at entries (subst (λ (q : Place). IsRecent (part_at t.step.before.rooms (row_of (pool_sizes s) q)) entries) same f.recent)
