-- SPDX-License-Identifier: GPL-2.0-only
-- Begins that are shown, against those who may have begun.
use Rattle.shr_audit_fresh.proofs.Common.{◌≡◌, ℕ, zero, suc, ◌<◌, ◌≤◌, Bool, true, false, cond, List, [], ◌∷◌, ◌++◌, length, Option, Some, None, refl, sym, ap, subst, ◌∙◌, inl, inr, arith, ◌||◌, ◌&&◌, ◌==◌, slice_get, flat_map, filter, option_to_list, Decides, list_any, nat_tests, list_any-append, slice_get_within, Serial, TreeEntry, Answered, Script, WalkRecord, is_serial, is_begin, Cited, Never, Once, Often, AreCited, EachItem, Report, is_begin_at, of_answer, shown_by, tree_cited, walk_cited, answers_of, serial_of, walks_of, IsTreeNumbered, is_group, walks_cite, IsEntryStarted, IsWalkStarted, may_show, IsBeginStarted, either, or_left, or_right, not, nat_le, AnswerCites, TellsCited, cited_in, shows_begin, AreAnswersStarted, MayShow}
use Rattle.shr_base.specs.declared.journals.TreeEntry.TheVariants.{Begin, Done, Made}
use Rattle.shr_audit_reasons.specs.declared.cites.What.TheVariants as say
use Rattle.shr_audit_reasons.proofs.Treeing.{begun_of, of_begun}
use Rattle.shr_laws.specs.Causes.{IsOffline, MayHaveBegun}
use Rattle.shr_audit_fresh.proofs.Answering.{of_past}
use Rattle.shr_audit_fresh.proofs.MadeLaws.{group_is, is_the_group}
use Rattle.shr_audit_fresh.proofs.WalkFloors.{kept, on_command}
use Rattle.shr_model.proofs.Booleans.{and_right}
use Rattle.std.proofs.lemmas.Bool.{or_parts}
use Rattle.std.proofs.Math.Bool.{or-false}

-- ---- those who may have begun

-- all of them are later ones of this worker
abbrev AllLater : (Serial → Type 0) → ℕ → ℕ → Type 0
AllLater P worker k = (by : Serial) → P by → (by.worker ≡ worker) × (k < by.command)

not_same : (v w : ℕ) → not (v == w) ≡ true → v ≡ w → ⊥
not_same v w e same = by (v == w) refl e
  where
    by : (b : Bool) → (v == w) ≡ b → not b ≡ true → ⊥
    by true f g = absurd cc
    by false f g = let other : v ≡ w → ⊥ = grind (arith, nat_tests) in other same

other_or_early : (w c worker k : ℕ) → (not (w == worker) || nat_le c k) ≡ true → (w ≡ worker) × (k < c) → ⊥
other_or_early w c worker k e h = elim (either (not (w == worker)) (nat_le c k) e) [
  | inl other ↦ not_same w worker other h.0
  | inr early ↦ (let le : c ≤ k = grind (arith, nat_tests) in let lt = h.1 in omega (arith, le, lt))
]

own_and_later : (w c worker k : ℕ) → (not (w == worker) || nat_le c k) ≡ false → (w ≡ worker) × (k < c)
own_and_later w c worker k e = (by (w == worker) refl e, late)
  where
    by : (b : Bool) → (w == worker) ≡ b → (not b || nat_le c k) ≡ false → w ≡ worker
    by true f g = grind (arith, nat_tests)
    by false f g = absurd cc

    right : (a b : Bool) → (a || b) ≡ false → b ≡ false
    right true b f = absurd cc
    right false b f = f

    late : k < c
    late = let unlike = right (not (w == worker)) (nat_le c k) e in grind (arith, nat_tests)

may_of : (P : Serial → Type 0) (c : Cited) (worker k : ℕ) → TellsCited P c → may_show c worker k ≡ true → AllLater P worker k → ⊥
may_of P Never worker k t e all = absurd cc
may_of P (Once w j) worker k t e all = other_or_early w j worker k e (all (serial_of w j) t.0)
may_of P (Often w j others) worker k t e all = elim (either others (not (w == worker) || nat_le j k) e) [
  | inl holds ↦ (let y = t.apart holds in y.1 ((all y.0 y.2).0 ∙ sym ((all (serial_of w j) t.so).0)))
  | inr here ↦ other_or_early w j worker k here (all (serial_of w j) t.so)
]

all_of : (P : Serial → Type 0) (c : Cited) (worker k : ℕ) → TellsCited P c → may_show c worker k ≡ false → AllLater P worker k
all_of P Never worker k t e by p = absurd (t by p)
all_of P (Once w j) worker k t e by p =
    let same = t.1 by p in
    let own = own_and_later w j worker k e in
    (ap (λ (x : Serial). x.worker) same ∙ own.0, (let command = ap (λ (x : Serial). x.command) same in let lt = own.1 in omega (arith, command, lt)))
all_of P (Often w j others) worker k t e by p =
    let parts = or_parts others (not (w == worker) || nat_le j k) e in
    let own = own_and_later w j worker k parts.1 in
    let mine = t.alone parts.0 by p in
    (mine ∙ own.0, (let le = t.first by p mine in let lt = own.1 in omega (arith, le, lt)))

-- ---- one group

module _ (s : Script) (r : Report) (begun : List Cited) (cited : AreCited s r say.Begun 65536 begun) where
  begins : (group : ℕ) → group < 65536 → TellsCited (λ x. AnswerCites s r say.Begun group x) (cited_in begun group)
  begins group lt = cited.each group lt

  pub may_begin : (group worker k : ℕ) → group < 65536 → may_show (cited_in begun group) worker k ≡ true → MayShow s r worker k group
  may_begin group worker k lt e all = may_of (λ x. AnswerCites s r say.Begun group x) (cited_in begun group) worker k (begins group lt) e (λ by c. all by (begun_of s r by group c))

  pub all_later : (group worker k : ℕ) → group < 65536 → may_show (cited_in begun group) worker k ≡ false → (by : Serial) → IsOffline s r by group MayHaveBegun → (by.worker ≡ worker) × (k < by.command)
  all_later group worker k lt e by o = all_of (λ x. AnswerCites s r say.Begun group x) (cited_in begun group) worker k (begins group lt) e by (of_begun s r by group o)

-- ---- the group of a Begin

-- it is one of 65,536
begin_few : (r : Report) → EachItem IsTreeNumbered r.tree.items → (group n : ℕ) → is_begin_at r group n ≡ true → group < 65536
begin_few r fits group n e = by (slice_get r.tree.items n) refl e
  where
    by : (o : Option TreeEntry) → slice_get r.tree.items n ≡ o → list_any (is_begin group) (option_to_list o) ≡ true → group < 65536
    by None at e = absurd cc
    by (Some (Begin g)) at e =
        let here : (g == group) ≡ true = sym (or-false (g == group)) ∙ e in
        let same : g ≡ group = grind (arith, nat_tests) in
        subst (λ (k : ℕ). k < 65536) same (fits n (Begin g) at)
    by (Some (Done g)) at e = absurd cc
    by (Some (Made g)) at e = absurd cc

few_of : (r : Report) → EachItem IsTreeNumbered r.tree.items → (group : ℕ) (ns : List ℕ) → list_any (is_begin_at r group) ns ≡ true → group < 65536
few_of r fits group [] e = absurd cc
few_of r fits group (n ∷ ns) e = elim (either (is_begin_at r group n) (list_any (is_begin_at r group) ns) e) [
  | inl here ↦ begin_few r fits group n here
  | inr later ↦ few_of r fits group ns later
]

-- ---- one entry

pub entry_none : (r : Report) (begun : List Cited) (worker k : ℕ) (ns : List ℕ) → ((g : ℕ) → is_group g None ≡ list_any (is_begin_at r g) ns) → Decides true (IsEntryStarted r begun worker k ns)
entry_none r begun worker k ns shows = (λ t g e. (let unlike : ◌≡◌ {A = Bool} false true = shows g ∙ e in absurd cc), λ h. refl)

pub entry_one : (r : Report) (begun : List Cited) (worker k : ℕ) (ns : List ℕ) (b : Bool) (group : ℕ) → ((g : ℕ) → is_group g (Some group) ≡ list_any (is_begin_at r g) ns) → b ≡ may_show (cited_in begun group) worker k → Decides b (IsEntryStarted r begun worker k ns)
entry_one r begun worker k ns b group shows is = (
  λ t g e. (let same : group ≡ g = some_same group g (group_is g (Some group) (shows g ∙ e)) in subst (λ (h : ℕ). may_show (cited_in begun h) worker k ≡ true) same (sym is ∙ t)),
  λ h. is ∙ h group (sym (shows group) ∙ is_the_group group (Some group) refl),
)
  where
    some_same : (x y : ℕ) → ◌≡◌ {A = Option ℕ} (Some x) (Some y) → x ≡ y
    some_same x y e = cc

pub past_started : (r : Report) (begun : List Cited) (worker k : ℕ) → length (answers_of r worker) ≤ k → IsEntryStarted r begun worker k (of_answer r (serial_of worker k) (λ (a : Answered). tree_cited a.reply))
past_started r begun worker k over g e =
    let none = of_past r worker k (λ (a : Answered). tree_cited a.reply) over in
    let unlike : ◌≡◌ {A = Bool} false true = subst (λ (ns : List ℕ). list_any (is_begin_at r g) ns ≡ true) none e in
    absurd cc

-- ---- answers and walks

some_walk : (a b : WalkRecord) → ◌≡◌ {A = Option WalkRecord} (Some a) (Some b) → a ≡ b
some_walk a b e = cc

walks_cons : (worker k : ℕ) (w : WalkRecord) (walks : List WalkRecord) (b : Bool) → is_serial (serial_of worker k) w.by ≡ b → walks_cite worker (w ∷ walks) k ≡ cond b (walk_cited w.answer) [] ++ walks_cite worker walks k
walks_cons worker k w walks b e = ap (flat_map (λ (x : WalkRecord). walk_cited x.answer)) (kept (λ (x : WalkRecord). is_serial (serial_of worker k) x.by) w walks b e) ∙ flat b
  where
    rest : List WalkRecord
    rest = filter (λ (x : WalkRecord). is_serial (serial_of worker k) x.by) walks

    flat : (c : Bool) → flat_map (λ (x : WalkRecord). walk_cited x.answer) (cond c (w ∷ rest) rest) ≡ cond c (walk_cited w.answer) [] ++ flat_map (λ (x : WalkRecord). walk_cited x.answer) rest
    flat true = refl
    flat false = refl

any_cons : (r : Report) (worker k g : ℕ) (w : WalkRecord) (walks : List WalkRecord) (b : Bool) → is_serial (serial_of worker k) w.by ≡ b
    → list_any (is_begin_at r g) (walks_cite worker (w ∷ walks) k) ≡ (list_any (is_begin_at r g) (cond b (walk_cited w.answer) []) || list_any (is_begin_at r g) (walks_cite worker walks k))
any_cons r worker k g w walks b e = ap (list_any (is_begin_at r g)) (walks_cons worker k w walks b e) ∙ list_any-append (is_begin_at r g) (cond b (walk_cited w.answer) []) (walks_cite worker walks k)

-- a walk of a command that cites a Begin
record IsCiting (r : Report) (worker k g : ℕ) (walks : List WalkRecord) : Type 0 where
  pub n : ℕ
  pub w : WalkRecord
  pub at : slice_get walks n ≡ Some w
  pub own : is_serial (serial_of worker k) w.by ≡ true
  pub cites : list_any (is_begin_at r g) (walk_cited w.answer) ≡ true

-- what the walks of a command cite, by a walk of it
walk_cites : (r : Report) (worker k g : ℕ) (walks : List WalkRecord) → list_any (is_begin_at r g) (walks_cite worker walks k) ≡ true → IsCiting r worker k g walks
walk_cites r worker k g [] e = absurd cc
walk_cites r worker k g (w ∷ walks) e = by (λ h. further (walk_cites r worker k g walks h)) (is_serial (serial_of worker k) w.by) refl
  where
    further : IsCiting r worker k g walks → IsCiting r worker k g (w ∷ walks)
    further found = record { n = suc found.n; w = found.w; at = found.at; own = found.own; cites = found.cites }

    by : (list_any (is_begin_at r g) (walks_cite worker walks k) ≡ true → IsCiting r worker k g (w ∷ walks)) → (b : Bool) → is_serial (serial_of worker k) w.by ≡ b → IsCiting r worker k g (w ∷ walks)
    by later false f = later (sym (any_cons r worker k g w walks false f) ∙ e)
    by later true f = elim (either (list_any (is_begin_at r g) (walk_cited w.answer)) (list_any (is_begin_at r g) (walks_cite worker walks k)) (sym (any_cons r worker k g w walks true f) ∙ e)) [
      | inl here ↦ record { n = 0; w = w; at = refl; own = f; cites = here }
      | inr h ↦ later h
    ]

-- and back
cites_walk : (r : Report) (worker g : ℕ) (walks : List WalkRecord) (n : ℕ) (w : WalkRecord) → slice_get walks n ≡ Some w → w.by.worker ≡ worker → list_any (is_begin_at r g) (walk_cited w.answer) ≡ true
    → list_any (is_begin_at r g) (walks_cite worker walks w.by.command) ≡ true
cites_walk r worker g [] n w at mine e = let lt = slice_get_within [] n w at in absurd (omega (arith, lt))
cites_walk r worker g (x ∷ walks) zero w at mine e =
    let same : w ≡ x = sym (some_walk x w at) in
    let on : is_serial (serial_of worker w.by.command) x.by ≡ true = subst (λ (y : WalkRecord). is_serial (serial_of worker w.by.command) y.by ≡ true) same (on_command worker w [] mine) in
    any_cons r worker w.by.command g x walks true on ∙ or_left (list_any (is_begin_at r g) (walk_cited x.answer)) (list_any (is_begin_at r g) (walks_cite worker walks w.by.command))
    (subst (λ (y : WalkRecord). list_any (is_begin_at r g) (walk_cited y.answer) ≡ true) same e)
cites_walk r worker g (x ∷ walks) (suc n) w at mine e =
    any_cons r worker w.by.command g x walks (is_serial (serial_of worker w.by.command) x.by) refl
    ∙ or_right (list_any (is_begin_at r g) (cond (is_serial (serial_of worker w.by.command) x.by) (walk_cited x.answer) [])) (list_any (is_begin_at r g) (walks_cite worker walks w.by.command)) (cites_walk r worker g walks n w at mine e)

-- ---- all that a worker was shown

and_left : (a b : Bool) → (a && b) ≡ true → a ≡ true
and_left true b e = refl
and_left false b e = absurd cc

module _ (s : Script) (r : Report) (begun : List Cited) (cited : AreCited s r say.Begun 65536 begun) (fits : EachItem IsTreeNumbered r.tree.items) (worker : ℕ) where
  abbrev replies : ℕ → List ℕ
  replies k = of_answer r (serial_of worker k) (λ (a : Answered). tree_cited a.reply)

  abbrev walks : ℕ → List ℕ
  walks k = walks_cite worker (walks_of r worker) k

  both : (k g : ℕ) → shows_begin r (serial_of worker k) g ≡ (list_any (is_begin_at r g) (replies k) || list_any (is_begin_at r g) (walks k))
  both k g = list_any-append (is_begin_at r g) (replies k) (walks k)

  -- what is shown of a group may be, where no Begin is shown too early
  may : IsBeginStarted s r worker → (k g : ℕ) → shows_begin r (serial_of worker k) g ≡ true → may_show (cited_in begun g) worker k ≡ true
  may h k g e = by (may_show (cited_in begun g) worker k) refl
    where
      by : (b : Bool) → may_show (cited_in begun g) worker k ≡ b → may_show (cited_in begun g) worker k ≡ true
      by true f = f
      by false f =
          let few = few_of r fits g (shown_by r (serial_of worker k)) e in
          let unlike = sym e ∙ h k g (all_later s r begun cited g worker k few f) in
          absurd cc

  answers_of_law : IsBeginStarted s r worker → AreAnswersStarted r begun worker
  answers_of_law h k g e = may h k g (both k g ∙ or_left (list_any (is_begin_at r g) (replies k)) (list_any (is_begin_at r g) (walks k)) e)

  walks_of_law : IsBeginStarted s r worker → EachItem (λ w. IsWalkStarted r begun worker w) (walks_of r worker)
  walks_of_law h n w at mine g e = may h w.by.command g (both w.by.command g ∙ or_right (list_any (is_begin_at r g) (replies w.by.command)) (list_any (is_begin_at r g) (walks w.by.command))
      (cites_walk r worker g (walks_of r worker) n w at mine e))

  pub answers_fail : (b : Bool) → Decides b (AreAnswersStarted r begun worker) → b ≡ false → Decides false (IsBeginStarted s r worker)
  answers_fail b d isnt = (λ t. absurd cc, λ h. absurd (let holds = d.1 (answers_of_law h) in cc))

  pub started : (b : Bool) → AreAnswersStarted r begun worker → Decides b (EachItem (λ w. IsWalkStarted r begun worker w) (walks_of r worker)) → Decides b (IsBeginStarted s r worker)
  started b answers d = (λ t k g all. not_shown t k g all, λ h. d.1 (walks_of_law h))
    where
      shown : b ≡ true → (k g : ℕ) → shows_begin r (serial_of worker k) g ≡ true → may_show (cited_in begun g) worker k ≡ true
      shown t k g e = elim (either (list_any (is_begin_at r g) (replies k)) (list_any (is_begin_at r g) (walks k)) (sym (both k g) ∙ e)) [
        | inl a ↦ answers k g a
        | inr h ↦
            let c = walk_cites r worker k g (walks_of r worker) h in
            let mine = and_left (worker == c.w.by.worker) (k == c.w.by.command) c.own in
            let same = and_right (worker == c.w.by.worker) (k == c.w.by.command) c.own in
            let here : c.w.by.worker ≡ worker = grind (arith, nat_tests) in
            let command : c.w.by.command ≡ k = grind (arith, nat_tests) in
            subst (λ (j : ℕ). may_show (cited_in begun g) worker j ≡ true) command (d.0 t c.n c.w c.at here g c.cites)
      ]

      not_shown : b ≡ true → (k g : ℕ) → AllLater (λ by. IsOffline s r by g MayHaveBegun) worker k → shows_begin r (serial_of worker k) g ≡ false
      not_shown t k g all = by (shows_begin r (serial_of worker k) g) refl
        where
          by : (x : Bool) → shows_begin r (serial_of worker k) g ≡ x → shows_begin r (serial_of worker k) g ≡ false
          by false e = e
          by true e = absurd (may_begin s r begun cited g worker k (few_of r fits g (shown_by r (serial_of worker k)) e) (shown t k g e) all)
