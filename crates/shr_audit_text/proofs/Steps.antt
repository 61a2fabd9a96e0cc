-- SPDX-License-Identifier: GPL-2.0-only
-- One line more of a text, and the last.
use Rattle.shr_audit_text.proofs.Common.{◌≡◌, ℕ, suc, ◌+◌, ◌-◌, ◌<◌, List, [], ◌∷◌, length, take, drop, true, false, Option, Some, None, refl, ap, subst, arith, cut, prefix_len, Report, Said, read_line, IsReadOf, with_said, Says, Bool, ◌==◌}
use Rattle.shr_model.specs.Pieces.{pieces, differs}
use Rattle.shr_model.specs.PieceParts.{left}
use Rattle.shr_model.proofs.PiecesLaws.{next_more, next_last}
use Rattle.shr_audit_text.specs.Reading.{Reads}
use Rattle.shr_model.proofs.Lists.{some_injective}

-- a line that others follow says something, and they go on from there
pub goes_on : (line rest behind : List ℕ) (before r : Report) → pieces 10 rest ≡ line ∷ pieces 10 behind → Reads (pieces 10 rest) before r → (said : Said) × (Says before.version line said × Reads (pieces 10 behind) (with_said said before) r)
unfolding pieces Reads
goes_on line rest behind before r e h = one line behind before r (subst (λ ls. Reads ls before r) e h)
  where
    one : (line behind : List ℕ) (before r : Report) → Reads (line ∷ pieces 10 behind) before r → (said : Said) × (Says before.version line said × Reads (pieces 10 behind) (with_said said before) r)
    one line behind before r h = h

-- the last part is empty, and what was read is the report
pub ends : (line rest : List ℕ) (before r : Report) → pieces 10 rest ≡ line ∷ [] → Reads (pieces 10 rest) before r → (line ≡ []) × (before ≡ r)
unfolding Reads
ends line rest before r e h = one line before r (subst (λ ls. Reads ls before r) e h)
  where
    one : (line : List ℕ) (before r : Report) → Reads (line ∷ []) before r → (line ≡ []) × (before ≡ r)
    one line before r h = h

-- nothing is found only where the line doesn't say anything that fits
pub not_none : (version : ℕ) (line : List ℕ) (said : Said) → Says version line said → IsReadOf None (read_line version line) → ⊥
not_none version line said says h = (subst (λ (o : Option Said). IsReadOf None o) says.is h) says.numbered

-- what is found is what the line says
pub found_is : (version : ℕ) (line : List ℕ) (said x : Said) → Says version line said → IsReadOf (Some x) (read_line version line) → x ≡ said
found_is version line said x says h = some_injective x said (subst (λ (o : Option Said). IsReadOf (Some x) o) says.is h)

-- fewer lines are left behind one
pub shorter : (line rest behind : List ℕ) → pieces 10 rest ≡ line ∷ pieces 10 behind → length (pieces 10 behind) < length (pieces 10 rest)
shorter line rest behind e = let n = ap length e in below (length (pieces 10 rest)) (length (pieces 10 behind)) n
  where
    below : (a b : ℕ) → a ≡ suc b → b < a
    below a b e = omega arith

both_same : (v w : List ℕ) (vs ws : List (List ℕ)) → ◌≡◌ {A = Option (List ℕ × List (List ℕ))} (Some (v, vs)) (Some (w, ws)) → w ∷ ws ≡ v ∷ vs
both_same v w vs ws e = let first : v ≡ w = ap (first_in v) e in let others : vs ≡ ws = ap (others_in vs) e in rw (first, others) refl
  where
    first_in : List ℕ → Option (List ℕ × List (List ℕ)) → List ℕ
    first_in d None = d
    first_in d (Some x) = x.0

    others_in : List (List ℕ) → Option (List ℕ × List (List ℕ)) → List (List ℕ)
    others_in d None = d
    others_in d (Some x) = x.1

-- bytes with a line feed are a line and what is behind it
pub line_more : (bytes : List ℕ) (n : ℕ) → n ≡ prefix_len (differs 10) bytes → n < length bytes → pieces 10 bytes ≡ take n bytes ∷ pieces 10 (take (length bytes - (n + 1)) (drop (n + 1) bytes))
unfolding pieces left
line_more bytes n e lt = both_same (take n bytes) (cut 10 bytes).first (pieces 10 (take (length bytes - (n + 1)) (drop (n + 1) bytes))) (cut 10 bytes).others (next_more 10 bytes n e lt)

-- others are one part
pub line_last : (bytes : List ℕ) (n : ℕ) → n ≡ prefix_len (differs 10) bytes → (n < length bytes → ⊥) → pieces 10 bytes ≡ bytes ∷ []
unfolding pieces left
line_last bytes n e ge = both_same bytes (cut 10 bytes).first [] (cut 10 bytes).others (next_last 10 bytes n e ge)

-- an empty list isn't told to be none
pub not_both : (xs : List ℕ) (b : Bool) → b ≡ (length xs == 0) → b ≡ false → xs ≡ [] → ⊥
not_both [] b e f g = no b e f
  where
    no : (b : Bool) → b ≡ true → b ≡ false → ⊥
    no b e f = cc
not_both (x ∷ xs) b e f g = let n : suc (length xs) ≡ 0 = ap length g in absurd (omega arith)
