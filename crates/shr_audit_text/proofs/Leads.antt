-- SPDX-License-Identifier: GPL-2.0-only
-- Lines lead from what was read before them to what is read with them.
use Rattle.shr_audit_text.proofs.Common.{◌≡◌, ℕ, ◌+◌, true, List, [], ◌∷◌, ◌++◌, flat_map, Option, Some, refl, sym, ap, subst, ◌∙◌, append_assoc, AllByRecursion, append-nil, cut, Report, line, Printed, Said, line_kind, read_line, with_said, Says, option_map, list_all, flat_numbered, said_of, IsSaidNumbered}
use Rattle.shr_model.specs.Pieces.{pieces}
use Rattle.shr_model.specs.PieceParts.{left}
use Rattle.shr_laws.specs.Lines.{numbered}
use Rattle.shr_report.specs.ReadWords.{first_of, later}
use Rattle.shr_report.proofs.Peel.{is_plain_word, body_of, body_words, cut_line}
use Rattle.shr_audit_text.specs.declared.kinds.Kind.{Kind}
use Rattle.shr_audit_text.specs.Reading.{Reads}

-- whatever follows them, these bytes lead from one report to another
pub record Leads (front : List ℕ) (before after : Report) : Type 0 where
  pub lead : (rest : List ℕ) (r : Report) → Reads (pieces 10 rest) after r → Reads (pieces 10 (front ++ rest)) before r

pub leads_none : (r : Report) → Leads [] r r
leads_none r = record { lead = λ rest s h. h }

pub leads_then : (a b : List ℕ) (x y z : Report) → Leads a x y → Leads b y z → Leads (a ++ b) x z
leads_then a b x y z h k = record { lead = λ rest r e. subst (λ (t : List ℕ). Reads (pieces 10 t) x r) (sym (append_assoc a b rest)) (h.lead (b ++ rest) r (k.lead rest r e)) }

-- ---- one line

lines_of : (f : List ℕ) (ws : List (List ℕ)) (rest : List ℕ) → list_all is_plain_word (f ∷ ws) ≡ true → pieces 10 (line f ws ++ rest) ≡ body_of f ws ∷ pieces 10 rest
unfolding pieces
lines_of f ws rest h = let c = cut_line f ws rest h in both (cut 10 (line f ws ++ rest)).first (body_of f ws) (cut 10 (line f ws ++ rest)).others (pieces 10 rest) c.0 c.1
  where
    both : (a b : List ℕ) (ans bs : List (List ℕ)) → a ≡ b → ans ≡ bs → a ∷ ans ≡ b ∷ bs
    both a b ans bs e f = cc

said_in : ℕ → List (List ℕ) → Option Said
said_in version ws = option_map (λ k. said_of k version (first_of ws) (later ws)) (line_kind (first_of ws))

of_words : (version : ℕ) (body : List ℕ) → read_line version body ≡ said_in version (pieces 32 body)
unfolding left said_in
of_words version body = refl

of_kind : (version : ℕ) (f : List ℕ) (ws : List (List ℕ)) (k : Kind) → line_kind f ≡ Some k → said_in version (f ∷ ws) ≡ Some (said_of k version f ws)
unfolding said_in
of_kind version f ws k e = ap (option_map (λ k. said_of k version f ws)) e

pub leads_line : (before : Report) (f : List ℕ) (ws : List (List ℕ)) (s : Said) (k : Kind) → list_all is_plain_word (f ∷ ws) ≡ true → line_kind f ≡ Some k → said_of k before.version f ws ≡ s → IsSaidNumbered s
    → Leads (line f ws) before (with_said s before)
unfolding pieces Reads
leads_line before f ws s k plain e said fits = record { lead = λ rest r h. subst (λ (ls : List (List ℕ)). Reads ls before r) (sym (lines_of f ws rest plain)) (one rest r h) }
  where
    says : Says before.version (body_of f ws) s
    says = record {
      is = of_words before.version (body_of f ws) ∙ ap (said_in before.version) (body_words f ws plain) ∙ of_kind before.version f ws k e ∙ ap (λ (x : Said). Some x) said;
      numbered = fits;
    }

    one : (rest : List ℕ) (r : Report) → Reads (pieces 10 rest) (with_said s before) r → Reads (body_of f ws ∷ pieces 10 rest) before r
    one rest r h = (s, (says, h))

-- the first word of the first line of a text
unfoldable pub first_word : List ℕ → List ℕ
first_word t = first_of (pieces 32 (cut 10 t).first)

first_is : (f : List ℕ) (ws : List (List ℕ)) (rest : List ℕ) → list_all is_plain_word (f ∷ ws) ≡ true → first_word (line f ws ++ rest) ≡ f
unfolding first_word
first_is f ws rest h = ap (λ (l : List ℕ). first_of (pieces 32 l)) (cut_line f ws rest h).0 ∙ ap first_of (body_words f ws h)

-- a line that is read back leads to what it says
pub leads_printed : {X : Type 0} (read : List ℕ → List (List ℕ) → X) (x : X) (text : List ℕ) (k : Kind) (to : X → Said) (before : Report) → Printed X read x text → line_kind (first_word (text ++ [])) ≡ Some k
    → ((f : List ℕ) (ws : List (List ℕ)) → said_of k before.version f ws ≡ to (read f ws)) → IsSaidNumbered (to x) → Leads text before (with_said (to x) before)
leads_printed read x text k to before p e said fits =
    let first : first_word (text ++ []) ≡ p.first = ap (λ (t : List ℕ). first_word (t ++ [])) p.is ∙ first_is p.first p.words [] p.plain in
    subst (λ (t : List ℕ). Leads t before (with_said (to x) before)) (sym p.is)
    (leads_line before p.first p.words (to x) k p.plain (ap line_kind (sym first) ∙ e) (said p.first p.words ∙ ap to p.again) fits)

-- ---- lines one behind another

pub leads_items : {X : Type 0} (S : List X → Report) (f : ℕ → X → List ℕ) (P : X → Type 0) → ((n : ℕ) (x : X) (done : List X) → P x → Leads (f n x) (S done) (S (done ++ x ∷ [])))
    → (n : ℕ) (xs done : List X) → AllByRecursion P xs → Leads (numbered f n xs) (S done) (S (done ++ xs))
unfolding numbered
leads_items {X} S f P one n [] done h = subst (λ (ys : List X). Leads [] (S done) (S ys)) (sym (append-nil done)) (leads_none (S done))
leads_items {X} S f P one n (x ∷ xs) done h =
    let more = leads_items S f P one (n + 1) xs (done ++ x ∷ []) h.1 in
    leads_then (f n x) (numbered f (n + 1) xs) (S done) (S (done ++ x ∷ [])) (S (done ++ x ∷ xs)) (one n x done h.0)
    (subst (λ (ys : List X). Leads (numbered f (n + 1) xs) (S (done ++ x ∷ [])) (S ys)) (append_assoc done (x ∷ []) xs) more)

-- the same of lines that don't say their number
pub leads_flat : {X : Type 0} (S : List X → Report) (f : X → List ℕ) (P : X → Type 0) → ((x : X) (done : List X) → P x → Leads (f x) (S done) (S (done ++ x ∷ [])))
    → (xs done : List X) → AllByRecursion P xs → Leads (flat_map f xs) (S done) (S (done ++ xs))
leads_flat {X} S f P one xs done h = subst (λ (t : List ℕ). Leads t (S done) (S (done ++ xs))) (sym (flat_numbered f 0 xs)) (leads_items S (λ i x. f x) P (λ n x done k. one x done k) 0 xs done h)
