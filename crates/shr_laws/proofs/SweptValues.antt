-- SPDX-License-Identifier: GPL-2.0-only
-- The law on a sweep, by a report that meets it and changes that break a sentence.
use Rattle.shr_laws.proofs.Common.{◌≡◌, ℕ, zero, suc, ◌<◌, ◌≤◌, true, false, List, [], ◌∷◌, Some, refl, IsSomeAnd, arith, subst, WorkerPart, Answered, Script, Sweep, Walked, WalkRecord, Report, answer_at, reply_at, AreRepliesLawful, sweep_serial, IsSweepLawful, sweep_walks, times_swept, IsSweptOut, IsSwept, IsSweepRight}
use Rattle.shr_base.specs.declared.replies.Reply.TheVariants as reply
use Rattle.shr_laws.proofs.SecondReport.{kept, held, unheld}
use Rattle.shr_laws.proofs.FirstReport as first

-- two workers without commands, a root and a group below it, and sweep 12 nofs
abbrev sweep : Sweep
sweep = record { priority = 12; nofs = true }

abbrev script : Script
script = record first.script { version = 2; workers = kept (record { commands = kept [] } ∷ record { commands = kept [] } ∷ []); sweep = Some sweep }

abbrev walk : ℕ → ℕ → WalkRecord
walk worker group = record { by = record { worker = worker; command = 0 }; group = group; node = 0; priority = 12; nofs = true; maps = kept []; attempts = kept []; answer = Walked 0 }

abbrev part : Answered → List WalkRecord → WorkerPart
part answer walks = record { answers = kept (answer ∷ []); walks = kept walks; carries = kept []; plain = kept []; isolations = kept [] }

abbrev with : WorkerPart → WorkerPart → Report
with p q = record first.report { workers = kept (p ∷ q ∷ []) }

-- the first worker walks the root, the second the group
abbrev report : Report
report = with (part (unheld (reply.Swept 1 0)) (walk 0 0 ∷ [])) (part (unheld (reply.Swept 1 0)) (walk 1 1 ∷ []))

few_times : (group node : ℕ) → times_swept script report group node ≤ 1
few_times zero zero = omega arith
few_times zero (suc node) = grind (arith)
few_times (suc zero) zero = omega arith
few_times (suc zero) (suc node) = grind (arith)
few_times (suc (suc group)) zero = grind (arith)
few_times (suc (suc group)) (suc node) = grind (arith)

each_once : (group node : ℕ) → group < 2 → node < 1 → times_swept script report group node ≡ 1
each_once zero zero low here = refl
each_once zero (suc node) low here = absurd (omega (arith, here))
each_once (suc zero) zero low here = refl
each_once (suc zero) (suc node) low here = absurd (omega (arith, here))
each_once (suc (suc group)) node low here = absurd (omega (arith, low))

first_swept : IsSwept script sweep (walk 0 0 ∷ []) (unheld (reply.Swept 1 0))
first_swept = record {
  alone = refl;
  kind = tt;
  walks_are = (record { group = omega arith; node = omega arith; priority = refl; nofs = refl }, tt);
  jobs = λ jobs freed e. let same : 1 ≡ jobs = cc in omega (arith, same);
  freed = refl;
}

second_swept : IsSwept script sweep (walk 1 1 ∷ []) (unheld (reply.Swept 1 0))
second_swept = record {
  alone = refl;
  kind = tt;
  walks_are = (record { group = omega arith; node = omega arith; priority = refl; nofs = refl }, tt);
  jobs = λ jobs freed e. let same : 1 ≡ jobs = cc in omega (arith, same);
  freed = refl;
}

right : IsSweepRight script report sweep
right = record {
  answers = answered;
  once = few_times;
  all = λ none group node low here. each_once group node low here;
}
  where
    answered : (worker : ℕ) → worker < 2 → IsSomeAnd (answer_at report (sweep_serial script worker)) (IsSwept script sweep (sweep_walks script report worker))
    answered zero low = first_swept
    answered (suc zero) low = second_swept
    answered (suc (suc worker)) low = absurd (omega (arith, low))

lawful : IsSweepLawful script report
lawful z e = let same : sweep ≡ z = cc in subst (IsSweepRight script report) same right

-- a script without a sweep asks nothing
quiet : IsSweepLawful first.script first.report
quiet z e = absurd (cc)

-- the law on replies asks for the last answer too, and for one of a sweep
no_last : AreRepliesLawful script (record first.report { workers = kept (part (unheld (reply.Swept 2 0)) (walk 0 0 ∷ walk 0 1 ∷ []) ∷ []) }) → ⊥
no_last h = let e : 0 ≡ 1 = h.counts 1 in absurd (omega (arith, e))

other_last : AreRepliesLawful script (with (part (unheld (reply.Walked 0)) (walk 0 0 ∷ [])) (part (unheld (reply.Swept 1 0)) (walk 1 1 ∷ []))) → ⊥
other_last h = h.last 0 _ refl

-- a worker has no last answer; one that is of no sweep; one with a found cache
no_answer : IsSweepLawful script (record first.report { workers = kept (part (unheld (reply.Swept 2 0)) (walk 0 0 ∷ walk 0 1 ∷ []) ∷ []) }) → ⊥
no_answer h = (h sweep refl).answers 1 (omega arith)

other_answer : IsSweepLawful script (with (part (unheld (reply.Walked 0)) (walk 0 0 ∷ [])) (part (unheld (reply.Swept 1 0)) (walk 1 1 ∷ []))) → ⊥
other_answer h = ((h sweep refl).answers 0 (omega arith)).kind

found_cache : IsSweepLawful script (with (part (held (reply.Swept 1 0) 0) (walk 0 0 ∷ [])) (part (unheld (reply.Swept 1 0)) (walk 1 1 ∷ []))) → ⊥
found_cache h = absurd (let e = ((h sweep refl).answers 0 (omega arith)).alone in cc)

-- a walk of another priority, of another kind, of a group that isn't there and of a node that isn't
abbrev first_walk : WalkRecord → Report
first_walk w = with (part (unheld (reply.Swept 1 0)) (w ∷ [])) (part (unheld (reply.Swept 1 0)) (walk 1 1 ∷ []))

other_priority : IsSweepLawful script (first_walk (record (walk 0 0) { priority = 0 })) → ⊥
other_priority h = let e : 0 ≡ 12 = ((h sweep refl).answers 0 (omega arith)).walks_are.0.priority in absurd (omega (arith, e))

other_kind : IsSweepLawful script (first_walk (record (walk 0 0) { nofs = false })) → ⊥
other_kind h = absurd (let e : false ≡ true = ((h sweep refl).answers 0 (omega arith)).walks_are.0.nofs in cc)

no_group : IsSweepLawful script (first_walk (walk 0 2)) → ⊥
no_group h = let low = ((h sweep refl).answers 0 (omega arith)).walks_are.0.group in absurd (omega (arith, low))

no_node : IsSweepLawful script (first_walk (record (walk 0 0) { node = 1 })) → ⊥
no_node h = let low = ((h sweep refl).answers 0 (omega arith)).walks_are.0.node in absurd (omega (arith, low))

-- a worker counts a job more than it walked, and more freed than its walks
job_more : IsSweepLawful script (with (part (unheld (reply.Swept 2 0)) (walk 0 0 ∷ [])) (part (unheld (reply.Swept 1 0)) (walk 1 1 ∷ []))) → ⊥
job_more h = let e : 2 ≡ 1 = ((h sweep refl).answers 0 (omega arith)).jobs 2 0 refl in absurd (omega (arith, e))

freed_more : IsSweepLawful script (with (part (unheld (reply.WalkMemory 3)) (walk 0 0 ∷ [])) (part (unheld (reply.Swept 1 0)) (walk 1 1 ∷ []))) → ⊥
freed_more h = let e : 3 ≡ 0 = ((h sweep refl).answers 0 (omega arith)).freed in absurd (omega (arith, e))

-- both workers walked the root; nobody walked the group, and both say that no job was left
walked_twice : IsSweepLawful script (with (part (unheld (reply.Swept 1 0)) (walk 0 0 ∷ [])) (part (unheld (reply.Swept 2 0)) (walk 1 0 ∷ walk 1 1 ∷ []))) → ⊥
walked_twice h = let low : 2 ≤ 1 = (h sweep refl).once 0 0 in absurd (omega (arith, low))

abbrev short : Report
short = with (part (unheld (reply.Swept 1 0)) (walk 0 0 ∷ [])) (part (unheld (reply.Swept 0 0)) [])

left_out : IsSweepLawful script short → ⊥
left_out h = let e : 0 ≡ 1 = (h sweep refl).all both 1 0 (omega arith) (omega arith) in absurd (omega (arith, e))
  where
    both : (worker : ℕ) → worker < 2 → IsSomeAnd (reply_at short (sweep_serial script worker)) IsSweptOut
    both zero low = tt
    both (suc zero) low = tt
    both (suc (suc worker)) low = absurd (omega (arith, low))
