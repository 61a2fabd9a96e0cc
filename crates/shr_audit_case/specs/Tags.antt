-- SPDX-License-Identifier: GPL-2.0-only
-- Objects by the command that added them and by their birth group.
use Rattle.std.specs.Prelude.{ℕ}
use Rattle.shr_base.specs.declared.objects.Object.{Object}
use Rattle.shr_audit_case.specs.declared.tags.Tag.{Tag}
use Rattle.shr_audit_case.specs.declared.tags.FreedTag.{FreedTag}

-- an object by its command and its birth group
abbrev pub tag_of : Object → Tag
tag_of o = record { serial = o.serial; birth = o.birth }

-- the same of one that this entry freed
abbrev pub freed_tag : ℕ → Object → FreedTag
freed_tag entry o = record { entry = entry; tag = tag_of o }
