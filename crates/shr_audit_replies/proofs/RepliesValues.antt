-- SPDX-License-Identifier: GPL-2.0-only
-- What is tested of the law on replies, at known values.
use Rattle.shr_audit_replies.proofs.Common.{◌≡◌, ℕ, ◌<◌, ◌≤◌, true, List, [], ◌∷◌, length, Option, Some, refl, ap, subst, arith, none-some, slice_get_within, At, Serial, Entry, Add, Look, Get, On, Command, Family, at, cited_at, Last, HasAnswers, HasNames, HasPaths, HasSizes, IsLastSwept, MayReply, AreCommandsRising, IsCited, IsAfter, last_of_worker, noted_by, codes, HasPoolNames}
use Rattle.shr_base.specs.declared.replies.Reply.TheVariants as reply
use Rattle.shr_laws.proofs.SecondReport.{kept, by, place, target}
use Rattle.shr_laws.proofs.FirstReport.{script, report, answer}

-- ---- heads

sizes : HasSizes script report
sizes = record { version = refl; nodes = refl; ids = refl }

two_nodes : HasSizes script (record report { nodes = 2 }) → ⊥
two_nodes h = let e : ◌≡◌ {A = ℕ} 2 1 = h.nodes in absurd (omega arith)

paths : HasPaths script report
paths = refl

no_path : HasPaths script (record report { groups = kept (codes "/" ∷ []) }) → ⊥
no_path h = let e : ◌≡◌ {A = ℕ} 1 2 = ap length h in absurd (omega arith)

names : HasNames script report
names = refl

no_name : HasNames script (record report { caches = kept [] }) → ⊥
no_name h = let e : ◌≡◌ {A = ℕ} 0 1 = ap length h in absurd (omega arith)

pools : HasPoolNames script report
pools = refl

one_pool : HasPoolNames script (record report { pools = kept (codes "pages" ∷ []) }) → ⊥
one_pool h = let e : ◌≡◌ {A = ℕ} 1 0 = ap length h in absurd (omega arith)

one_answer : HasAnswers script report 0
one_answer = refl

no_sweep_answer : HasAnswers (record script { sweep = Some (record { priority = 0; nofs = true }) }) report 0 → ⊥
no_sweep_answer h = let e : ◌≡◌ {A = ℕ} 1 2 = h in absurd (omega arith)

last_swept : IsLastSwept script report 0
last_swept a e = absurd (none-some a e)

put_as_swept : IsLastSwept (record script { workers = kept [] }) report 0 → ⊥
put_as_swept h = h answer refl

-- ---- answers: a hit may stand with any value, and only where a Look of its own hit

abbrev looks : Family
looks p = Look (by 0) 1 (codes "k1") true ∷ []

abbrev get : Command
get = On (target 1 0 0) (codes "k1") Get

hit_any : MayReply (0 ∷ 0 ∷ []) looks (by 0) get (Some 0) (reply.Hit (at place 0) (codes "=other"))
hit_any = record { id_is = refl; node_is = refl; stands = refl }

hit_elsewhere : MayReply (0 ∷ 0 ∷ []) looks (by 0) get (Some 1) (reply.Hit (at place 0) (codes "=v1")) → ⊥
hit_elsewhere h = let e : ◌≡◌ {A = ℕ} 0 1 = h.id_is in absurd (omega arith)

-- ---- entries

abbrev added : Entry
added = Add (by 0) 1 true (codes "k1") (codes "v1")

cited : IsCited report place 0 added
cited x e = let same : by 0 ≡ x = cc in subst (λ (y : Serial). cited_at report y ≡ Some (at place 0)) same refl

not_first : IsCited report place 1 added → ⊥
not_first h = let both : ◌≡◌ {A = Option At} (Some (at place 0)) (Some (at place 1)) = h (by 0) refl in let e : at place 0 ≡ at place 1 = cc in let number : ◌≡◌ {A = ℕ} 0 1 = ap (λ (a : At). a.entry) e in absurd (omega arith)

-- the second of two entries of one worker has the lower command
falls : AreCommandsRising (Look (by 1) 1 (codes "k1") true ∷ added ∷ []) → ⊥
falls h = let lt : 1 < 0 = h 0 1 (Look (by 1) 1 (codes "k1") true) added (by 1) (by 0) (omega arith) refl refl refl refl refl in absurd (omega arith)

alone : AreCommandsRising (added ∷ [])
alone n m d e b later lt first second = absurd (let within = slice_get_within (added ∷ []) m e second in omega (arith, lt, within))

-- ---- the last entries of workers

abbrev seen : List Last
seen = record { journal = 3; next = 2 } ∷ record { journal = 1; next = 7 } ∷ []

after_its_last : IsAfter 3 (by 2) (last_of_worker seen 0)
after_its_last e = omega arith

not_after : IsAfter 3 (by 1) (last_of_worker seen 0) → ⊥
not_after h = let le : 2 ≤ 1 = h refl in absurd (omega arith)

of_an_older_journal : IsAfter 3 (by 1) (last_of_worker seen 1)
of_an_older_journal e = let same : ◌≡◌ {A = ℕ} 1 3 = e in absurd (omega arith)

noted : noted_by 3 (by 4) seen ≡ record { journal = 3; next = 5 } ∷ record { journal = 1; next = 7 } ∷ []
noted = refl
