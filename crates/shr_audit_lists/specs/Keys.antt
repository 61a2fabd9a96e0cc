-- SPDX-License-Identifier: GPL-2.0-only
-- Serials by one number. No public clause cites this.
use Rattle.std.specs.Prelude.{ℕ, ◌+◌, ◌*◌}
use Rattle.shr_base.specs.declared.places.Serial.{Serial}

-- the numbers of a worker and of its command as one
abbrev pub command_key : ℕ → ℕ → ℕ
command_key worker command = 4294967296 * worker + command

-- that of a serial
abbrev pub serial_key : Serial → ℕ
serial_key s = command_key s.worker s.command
