-- SPDX-License-Identifier: GPL-2.0-only
-- The last of some.
use Rattle.shr_audit_text.proofs.Common.{◌≡◌, ℕ, ◌+◌, ◌-◌, ◌%◌, ◌^◌, List, [], ◌∷◌, ◌++◌, length, refl, sym, ap, ◌∙◌, append_assoc, arith, replicate, map, append-nil, replicate-append-replicate, length-append, Kept, WorkerPart, Serial, WalkRecord, MapSeen, Attempt, PlainTry, PlainWalk, WalkDraft, PlainDraft, PartDraft, kept, no_part, padded, drafted_part, drafted_parts, drafted_walk, drafted_walks, drafted_plain, plains_of, last_command, walk_begun, plain_begun, length-replicate, map-append, length-map, Global}
use Rattle.std.specs.declared.vec.Vec.{Vec}
use Rattle.shr_audit_text.specs.declared.walks.Head.{Head}
use Rattle.shr_audit_text.specs.declared.pools.PlainHead.{PlainHead}
use Rattle.shr_audit_text.specs.Draft.{with_last}

-- the last behind others is changed
pub last_is : {X : Type 0} (change : X → X) (done : List X) (x : X) → with_last change (done ++ x ∷ []) ≡ done ++ change x ∷ []
unfolding with_last
last_is change [] x = refl
last_is change (y ∷ []) x = refl
last_is change (y ∷ z ∷ zs) x = ap (λ ys. y ∷ ys) (last_is change (z ∷ zs) x)

-- a list without room to spare is that of its items
pub tight_is : {X : Type 0} (xs : Kept X) → xs.spare ≡ 0 → kept xs.items ≡ xs
tight_is {X} xs e = ap (λ (n : ℕ). with_spare n) (sym e)
  where
    with_spare : ℕ → Kept X
    with_spare n = record { items = xs.items; spare = n }

-- parts up to that of a worker whose part is the last are as they are
pub padded_same : (w : ℕ) (done : List WorkerPart) (q : WorkerPart) → length done ≡ w → padded w (done ++ q ∷ []) ≡ done ++ q ∷ []
padded_same w done q e =
    let n : w + 1 - length (done ++ q ∷ []) ≡ 0 = simp length-append (omega arith) in
    ap (λ (m : ℕ). (done ++ q ∷ []) ++ replicate m no_part) n ∙ append-nil (done ++ q ∷ [])

-- where parts of which nothing was read are left out at the end, they are made, and one more
pub padded_more : (w m : ℕ) (front done : List WorkerPart) → done ≡ front ++ replicate m no_part → length done ≡ w → padded w front ≡ done ++ no_part ∷ []
padded_more w m front done e len =
    let long : length done ≡ length front + m = ap length e ∙ length-append front (replicate m no_part) ∙ ap (λ (k : ℕ). length front + k) (length-replicate m no_part) in
    let n : w + 1 - length front ≡ m + 1 = omega arith in
    ap (λ (k : ℕ). front ++ replicate k no_part) n
    ∙ ap (λ (xs : List WorkerPart). front ++ xs) (sym (replicate-append-replicate m 1 no_part))
    ∙ sym (append_assoc front (replicate m no_part) (no_part ∷ []))
    ∙ ap (λ (xs : List WorkerPart). xs ++ no_part ∷ []) (sym e)

-- the last of what was read is changed as what it says is
pub changed_last : {A B : Type 0} (f : A → B) (change : B → B) (old rest : List A) (x y : A) → old ≡ rest ++ x ∷ [] → f y ≡ change (f x) → map f (rest ++ y ∷ []) ≡ with_last change (map f old)
changed_last {A} {B} f change old rest x y e g =
    map-append f rest (y ∷ []) ∙ ap (λ (b : B). map f rest ++ b ∷ []) g ∙ sym (last_is change (map f rest) (f x))
    ∙ ap (with_last change) (sym (map-append f rest (x ∷ [])) ∙ ap (λ (all : List A). map f all) (sym e))

-- nothing is changed where nothing was read
pub changed_none : {A B : Type 0} (f : A → B) (change : B → B) (old new : List A) → length old ≡ 0 → length new ≡ 0 → map f new ≡ with_last change (map f old)
unfolding with_last
changed_none f change [] [] e g = refl
changed_none f change [] (x ∷ xs) e g = absurd (omega arith)
changed_none f change (x ∷ xs) new e g = absurd (omega arith)

-- the same of what says itself
pub none_changed : {A : Type 0} (change : A → A) (old new : List A) → length old ≡ 0 → length new ≡ 0 → new ≡ with_last change old
unfolding with_last
none_changed change [] [] e g = refl
none_changed change [] (x ∷ xs) e g = absurd (omega arith)
none_changed change (x ∷ xs) new e g = absurd (omega arith)

-- the last command of the last part, by the number of those before it
pub by_last : (old rest : List PartDraft) (x : PartDraft) (n : ℕ) (by : Serial) → old ≡ rest ++ x ∷ [] → n ≡ length rest → by.worker ≡ n % 2 ^ 16 → by.command ≡ (length x.answers.items - 1) % 2 ^ 32
    → by ≡ last_command (length (drafted_parts old) - 1) (drafted_part x)
by_last old rest x n by e f worker command =
    let count : length (drafted_parts old) ≡ length rest + 1 = length-map old drafted_part ∙ ap length e ∙ length-append rest (x ∷ []) in
    let same : length (drafted_parts old) - 1 ≡ n = omega arith in
    parts by.worker by.command (n % 2 ^ 16) ((length x.answers.items - 1) % 2 ^ 32) worker command ∙ ap (λ (m : ℕ). last_command m (drafted_part x)) (sym same)
  where
    parts : (a b d g : ℕ) → a ≡ d → b ≡ g → (let s : Serial = record { worker = a; command = b } in s) ≡ (let s : Serial = record { worker = d; command = g } in s)
    parts a b d g e f = rw (e, f) refl

-- a walk more
pub walks_more : (old new : List WalkDraft) (w : WalkDraft) (r : WalkRecord) → new ≡ old ++ w ∷ [] → drafted_walk w ≡ r → drafted_walks new ≡ drafted_walks old ++ r ∷ []
walks_more old new w r e f = ap drafted_walks e ∙ map-append drafted_walk old (w ∷ []) ∙ ap (λ (x : WalkRecord). drafted_walks old ++ x ∷ []) f

-- a walk of which nothing but its head was read
pub begun_is : (made by : Serial) (h : Head) (maps : Vec MapSeen Global) (attempts : Vec Attempt Global) → made ≡ by → maps.items ≡ [] → attempts.items ≡ [] → drafted_walk (record { by = made; head = h; maps = maps; attempts = attempts }) ≡ walk_begun by h
begun_is made by h maps attempts e f g = rw (e, f, g) refl

-- a walk of the pools more
pub plains_more : (old new : List PlainDraft) (w : PlainDraft) (r : PlainWalk) → new ≡ old ++ w ∷ [] → drafted_plain w ≡ r → plains_of new ≡ plains_of old ++ r ∷ []
plains_more old new w r e f = ap plains_of e ∙ map-append drafted_plain old (w ∷ []) ∙ ap (λ (x : PlainWalk). plains_of old ++ x ∷ []) f

-- a walk of the pools of which nothing but its head was read
pub plain_begun_is : (made by : Serial) (h : PlainHead) (tries : Vec PlainTry Global) → made ≡ by → tries.items ≡ [] → drafted_plain (record { by = made; head = h; tries = tries }) ≡ plain_begun by h
plain_begun_is made by h tries e f = rw (e, f) refl
