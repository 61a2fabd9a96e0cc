-- SPDX-License-Identifier: GPL-2.0-only
use Rattle.shr_gen.proofs.FormsCommon.{◌≡◌, ◌∙◌, ◌∷◌, [], List, codes, sym, ap, subst, arith, ℕ, string_bytes, bytes_decides, ReadsAs}
use Rattle.shr_gen.proofs.Reading.{one_word, four_words}
use Rattle.shr_gen.proofs.form.plain_form.Goals as goal

pub returns-in-len1 : goal.returns-in-len1
returns-in-len1 c =
    let all = one_word string_bytes c.args.words.now c.word-item.result (omega (arith, c.in-len1.len_at_least, c.in-len1.len_below)) c.word-item.is in
    subst (λ ws. ReadsAs ws c.single_form.result) (ap (λ (w : List ℕ). w ∷ []) c.as_str.ensures.value ∙ sym all) c.single_form.ensures

pub returns-in-len4 : goal.returns-in-len4
returns-in-len4 c =
    let word : string_bytes c.word-item-then-words-lt5.result ≡ codes "gen" =
    sym c.as_str-then-words-lt5.ensures.value ∙ (bytes_decides c.as_str-then-words-lt5.result.now (codes "gen")).0 (sym c.eq.ensures ∙ c.if-eq.true) in
    let all = four_words string_bytes c.args.words.now c.word-item-then-words-lt5.result c.seed-item.result c.workers-item.result c.commands-item.result
    (omega (arith, c.in-len4.len_at_least, c.in-len4.len_below)) c.word-item-then-words-lt5.is c.seed-item.is c.workers-item.is c.commands-item.is in
    subst (λ ws. ReadsAs ws c.gen_form.result)
    (ap (λ (w : List ℕ). w ∷ c.as_str-in-len4.result.now ∷ c.as_str-in-len4-2.result.now ∷ c.as_str-in-len4-3.result.now ∷ []) (sym word)
    ∙ rw (c.as_str-in-len4.ensures.value, c.as_str-in-len4-2.ensures.value, c.as_str-in-len4-3.ensures.value) (sym all))
    c.gen_form.ensures
