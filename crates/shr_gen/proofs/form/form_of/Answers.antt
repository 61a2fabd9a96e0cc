-- SPDX-License-Identifier: GPL-2.0-only
use Rattle.shr_gen.proofs.FormsCommon.{◌∙◌, ap, sym, subst, map, string_bytes, IsAmong, fault_of, is_simple, is_simple_and_free, subcommand_of, has_hyphen, ⊎_elim, kind_of, subcommand_rows_of}
use Rattle.clap.proofs.WalkLemmas.{list_any-map}
use Rattle.shr_gen.proofs.Splitting.{simple, simple_and_free}
use Rattle.shr_gen.proofs.Matching.{hyphened, all_plain, faulted, faultless}
use Rattle.shr_gen.proofs.form.form_of.Goals as goal

pub returns-then-have_hyphen : goal.returns-then-have_hyphen
returns-then-have_hyphen c = hyphened (map string_bytes c.args.words.now) (sym (list_any-map has_hyphen string_bytes c.args.words.now) ∙ sym c.have_hyphen.ensures ∙ c.if-have_hyphen.true)

pub returns-in-Ok-try_get_matches_from : goal.returns-in-Ok-try_get_matches_from
returns-in-Ok-try_get_matches_from c =
    let words = map string_bytes c.args.words.now in
    let app_is = c.in-Ok.ensures in
    faultless words (all_plain words (sym (list_any-map has_hyphen string_bytes c.args.words.now) ∙ sym c.have_hyphen.ensures ∙ c.if-have_hyphen.false)) (subcommand_rows_of c.in-Ok-try_get_matches_from.matches)
    ((c.in-Ok-try_get_matches_from.ensures.matches (ap is_simple app_is ∙ simple)).1 ∙ ap (λ a. subcommand_of a words) app_is) c.form_in.result c.form_in.ensures.run c.form_in.ensures.audit c.form_in.ensures.generated
    (ap (λ a. fault_of a words) (sym app_is) ∙ c.in-Ok-try_get_matches_from.ensures.kinds (ap is_simple_and_free app_is ∙ simple_and_free))

pub returns : goal.returns
returns c =
    let words = map string_bytes c.args.words.now in
    let app_is = c.in-Ok.ensures in
    ⊎_elim (λ memory. absurd (c.in_default-kind.not-OutOfMemory (c.kind.ensures ∙ memory)))
    (λ among. faulted words (kind_of c.in-Err.error) (all_plain words (sym (list_any-map has_hyphen string_bytes c.args.words.now) ∙ sym c.have_hyphen.ensures ∙ c.if-have_hyphen.false)) (subst (λ a. IsAmong (kind_of c.in-Err.error) (fault_of a words)) app_is among))
    (c.in-Err.ensures.kinds (ap is_simple_and_free app_is ∙ simple_and_free))
