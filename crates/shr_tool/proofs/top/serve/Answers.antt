-- SPDX-License-Identifier: GPL-2.0-only
use Rattle.shr_script.specs.Content.{content_of, spell}
use Rattle.shr_laws.specs.Text.{text}
use Rattle.shr_tool.specs.Top.{report_text}
use Rattle.shr_tool.proofs.top.serve.Goals as goal

pub returns-in-Ok-true-clause-traced : goal.returns-in-Ok-true-clause-traced
returns-in-Ok-true-clause-traced g c = λ source read. record {
  done = record {
    script = c.args.script;
    report = c.in-Ok.report;
    valid = c.requires;
    read = read;
    lawful = c.in-Ok.ensures.lawful;
    faithful = c.in-Ok.ensures.faithful;
    well_formed = c.in-Ok.ensures.well_formed;
    numbers = c.in-Ok-true.ensures.numbers c.in-Ok.ensures.well_formed;
    puts = c.in-Ok.ensures.puts;
    written = rw c.in-Ok-true.field-0-test at c.in-Ok-true.ensures.written;
  };
  of_run = c.in-Ok.ensures.made;
}

pub returns-in-Ok-true-clause-answer : goal.returns-in-Ok-true-clause-answer
returns-in-Ok-true-clause-answer g c = λ source read. (returns-in-Ok-true-clause-traced g c source read).done

pub returns-in-Ok-false-clause-answer : goal.returns-in-Ok-false-clause-answer
returns-in-Ok-false-clause-answer g c =
    let out = rw c.in-Ok-false.field-0-test at c.in-Ok-false.ensures.written in
    λ source read. record {
      rose = out.0;
      bytes = spell (content_of c.args.script);
      answer = text c.in-Ok.report;
      read = read;
      text_of = report_text c.args.script c.in-Ok.report c.requires c.in-Ok.ensures.lawful c.in-Ok.ensures.well_formed (c.in-Ok-false.ensures.numbers c.in-Ok.ensures.well_formed);
      part = out.1;
    }
