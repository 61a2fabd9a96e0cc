-- SPDX-License-Identifier: GPL-2.0-only
use Rattle.std.proofs.Common.{◌≡◌, ◌∙◌, true, ap, ap₂}
use Rattle.std.proofs.lemmas.Result.{IfOk-weaker}
use Rattle.clap.specs.Simple.{on_top, app_of_fields}
use Rattle.clap.specs.Words.{App, app_of, with_subcommand}
use Rattle.shr_gen.proofs.command_line.command.Goals as goal

pub returns : goal.returns
returns c =
    let named : app_of c.no_binary_name.result ≡ on_top (λ s. record s { no_binary_name = true }) (app_of c.new.result) = ap app_of_fields c.no_binary_name.ensures in
    let flag : app_of c.disable_help_flag.result ≡ on_top (λ s. record s { disable_help_flag = true }) (app_of c.no_binary_name.result) = ap app_of_fields c.disable_help_flag.ensures in
    let help : app_of c.disable_help_subcommand.result ≡ on_top (λ s. record s { disable_help_subcommand = true }) (app_of c.disable_help_flag.result) = ap app_of_fields c.disable_help_subcommand.ensures in
    let wanted : app_of c.subcommand_required.result ≡ on_top (λ s. record s { subcommand_required = true }) (app_of c.disable_help_subcommand.result) = ap app_of_fields c.subcommand_required.ensures in
    let base = wanted ∙ ap (on_top (λ s. record s { subcommand_required = true })) (help ∙ ap (on_top (λ s. record s { disable_help_subcommand = true })) (flag ∙ ap (on_top (λ s. record s { disable_help_flag = true }))
    (named ∙ ap (on_top (λ s. record s { no_binary_name = true })) c.new.ensures.app))) in
    let with_run = c.in_ok-subcommand.ensures.shape c.new-run.ensures.local ∙ ap₂ with_subcommand base (ap (λ (a : App). a.top) c.new-run.ensures.app) in
    let with_gen = c.in_ok-subcommand-2.ensures.shape c.in_ok-gen_command.ensures.local ∙ ap₂ with_subcommand with_run (ap (λ (a : App). a.top) c.in_ok-gen_command.ensures.app) in
    IfOk-weaker c.subcommand-3.result _ _ (λ r h. h.shape c.new-audit.ensures.local ∙ ap₂ with_subcommand with_gen (ap (λ (a : App). a.top) c.new-audit.ensures.app)) c.subcommand-3.ensures
