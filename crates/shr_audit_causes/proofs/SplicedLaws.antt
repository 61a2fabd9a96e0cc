-- SPDX-License-Identifier: GPL-2.0-only
-- Groups that may have been spliced, one command after another.
use Rattle.shr_audit_causes.proofs.OfflinesCommon.{◌≡◌, ◌⊎◌, ℕ, ◌<◌, ◌≤◌, Bool, true, false, List, length, get_or, set, replicate, Option, Some, None, refl, sym, ap, subst, ◌∙◌, inl, inr, arith, length-set, get_or-set_same, get_or-set_other, option_map, Decides, IsSomeAnd, cases_lt, get_or-replicate, get_or_past, length-replicate, slice_get_past, dite, ℕ_discrete, WorkerPart, Answered, Reply, Command, Script, Report, IsOffline, MayHaveSpliced, answer_at, answers_in, answers_of, command_at, reply_at, serial_of, AddsSpliced, AreOnlySpliced, HasSpliced, IsIn, with_spliced_group, ◌↔◌, HasSplicedGroups, some_injective}
use Rattle.shr_base.specs.declared.scripts.Command.TheVariants.{Offline}

none_some : {X : Type 0} (a : X) → ◌≡◌ {A = Option X} None (Some a) → ⊥
none_some a e = cc

-- ---- one command

module _ (s : Script) (r : Report) (worker k : ℕ) where
  -- the group that the command may have spliced is this one
  abbrev pub Splices : Option ℕ → Type 0
  Splices o = (group : ℕ) → IsOffline s r (serial_of worker k) group MayHaveSpliced ↔ (o ≡ Some group)

  pub no_command : None ≡ command_at s (serial_of worker k) → Splices None
  no_command none group = (λ h. absurd (none_some (Offline group) (none ∙ h.command_is)), λ e. absurd (none_some group e))

  not_answered : answer_at r (serial_of worker k) ≡ None → (group : ℕ) → IsOffline s r (serial_of worker k) group MayHaveSpliced → ⊥
  not_answered none group h = subst (λ (o : Option Reply). IsSomeAnd o MayHaveSpliced) (ap (option_map (λ (a : Answered). a.reply)) none) h.answer

  pub no_answer : None ≡ answer_at r (serial_of worker k) → Splices None
  no_answer none group = (λ h. absurd (not_answered (sym none) group h), λ e. absurd (none_some group e))

  module _ (c : Command) (a : Answered) (here : Some c ≡ command_at s (serial_of worker k)) (there : Some a ≡ answer_at r (serial_of worker k)) where
    reply_is : reply_at r (serial_of worker k) ≡ Some a.reply
    reply_is = ap (option_map (λ (x : Answered). x.reply)) (sym there)

    pub not_spliced : (b : Bool) → Decides b (MayHaveSpliced a.reply) → b ≡ false → Splices None
    not_spliced b d isnt group = (λ h. absurd (let holds = d.1 (subst (λ (o : Option Reply). IsSomeAnd o MayHaveSpliced) reply_is h.answer) in cc), λ e. absurd (none_some group e))

    pub splices : (b : Bool) (o : Option ℕ) → Decides b (MayHaveSpliced a.reply) → b ≡ true → ((group : ℕ) → (c ≡ Offline group) ↔ (o ≡ Some group)) → Splices o
    splices b o d is of group = (
      λ h. (of group).0 (some_injective c (Offline group) (here ∙ h.command_is)),
      λ e. record {
        command_is = sym here ∙ ap (λ (x : Command). Some x) ((of group).1 e);
        answer = subst (λ (x : Option Reply). IsSomeAnd x MayHaveSpliced) (sym reply_is) (d.0 is);
      },
    )

-- ---- one after another

pub adds_none : (s : Script) (r : Report) (table : List Bool) → AddsSpliced s r table table
adds_none s r table = record { count = refl; kept = λ group lt h. h; only = λ h. h }

pub adds_then : (s : Script) (r : Report) (a b c : List Bool) → AddsSpliced s r a b → AddsSpliced s r b c → AddsSpliced s r a c
adds_then s r a b c x y = record {
  count = y.count ∙ x.count;
  kept = λ group lt h. y.kept group (let long = x.count in omega (arith, lt, long)) (x.kept group lt h);
  only = λ h. y.only (x.only h);
}

module _ (s : Script) (r : Report) (worker k : ℕ) (table : List Bool) where
  adds_one : (h : ℕ) → IsOffline s r (serial_of worker k) h MayHaveSpliced → AddsSpliced s r table (set table h true)
  adds_one h own = record {
    count = length-set table h true;
    kept = λ group lt is. dite (ℕ_discrete group h)
        (λ same. subst (λ (g : ℕ). IsIn (set table h true) g) (sym same) (get_or-set_same table h true false (let e : group ≡ h = same in omega (arith, lt, e))))
        (λ ne. get_or-set_other table h group true false ne ∙ is);
    only = λ only group is. dite (ℕ_discrete group h)
        (λ same. (serial_of worker k, subst (λ (g : ℕ). IsOffline s r (serial_of worker k) g MayHaveSpliced) (sym same) own))
        (λ ne. only group (sym (get_or-set_other table h group true false ne) ∙ is));
  }

  pub adds_next : (o : Option ℕ) → Splices s r worker k o → AddsSpliced s r table (with_spliced_group o table)
  adds_next None of = adds_none s r table
  adds_next (Some h) of = adds_one h ((of h).1 refl)

  pub has_next : (o : Option ℕ) → Splices s r worker k o → HasSpliced s r (with_spliced_group o table) worker k
  has_next None of group lt h = absurd (none_some group ((of group).0 h))
  has_next (Some h) of group lt own =
      let same = some_injective h group ((of group).0 own) in
      let long = length-set table h true in
      subst (λ (g : ℕ). IsIn (set table h true) g) same (get_or-set_same table h true false (omega (arith, lt, same, long)))

-- what was noted stays
pub has_still : (s : Script) (r : Report) (worker k : ℕ) (old new : List Bool) → AddsSpliced s r old new → HasSpliced s r old worker k → HasSpliced s r new worker k
has_still s r worker k old new adds has group lt own =
    let long = adds.count in
    let few : group < length old = omega (arith, lt, long) in
    adds.kept group few (has group few own)

-- past the last answer nothing is spliced
pub past_spliced : (s : Script) (r : Report) (worker k : ℕ) (table : List Bool) → length (answers_of r worker) ≤ k → HasSpliced s r table worker k
past_spliced s r worker k table over group lt own = absurd (not_answered s r worker k (slice_get_past (answers_of r worker) k over) group own)

pub past_workers : (s : Script) (r : Report) (worker k : ℕ) (table : List Bool) → length r.workers.items ≤ worker → HasSpliced s r table worker k
past_workers s r worker k table over = past_spliced s r worker k table (let none = ap (λ (o : Option WorkerPart). length (answers_in o)) (slice_get_past r.workers.items worker over) in omega (arith, none))

-- ---- all

pub only_none : (s : Script) (r : Report) (count : ℕ) (table : List Bool) → table ≡ replicate count false → AreOnlySpliced s r table
only_none s r count table is group h = absurd (let clash : false ≡ true = sym (none (cases_lt group count)) ∙ h in cc)
  where
    none : (group < count) ⊎ (count ≤ group) → get_or table group false ≡ false
    none (inl lt) = ap (λ (xs : List Bool). get_or xs group false) is ∙ get_or-replicate count group false false lt
    none (inr le) = get_or_past table group false (let long = ap length is in let many = length-replicate count false in omega (arith, long, many, le))

pub all_spliced : (s : Script) (r : Report) (table : List Bool) → length table ≡ 65536 → AreOnlySpliced s r table → ((worker k : ℕ) → HasSpliced s r table worker k) → HasSplicedGroups s r table
all_spliced s r table many only all = record {
  count = many;
  each = λ group lt. (λ h. only group h, λ x. all x.0.worker x.0.command group (omega (arith, lt, many)) x.1);
}
