-- What the registers hold, and each change of one of them.
use Rattle.std.specs.Prelude.{ℕ, Bool, true, false, List, replicate}
use Rattle.clock.specs.declared.calendar.Moment.{Moment}
use Rattle.clock.specs.Ticking.{first_moment}
use Rattle.mission.specs.PerChannel.{Codes, FlagPair, Flags, LimitPair, Limits}
use Rattle.registers.specs.declared.registers.Registers.{Registers}

-- The contents of the registers. Control 1 is held without its bit 6, which is `clear_enabled`, and
-- Control 2 as it reads.
pub record Contents : Type 0 where
  pub moment : Moment
  pub limits : Limits
  pub rate : ℕ
  pub control : ℕ
  pub clear_enabled : Bool
  pub delay : ℕ
  pub latest : Codes
  pub ready : Bool
  pub cleared : Bool
  pub flags : Flags
  pub switches : ℕ
  pub user : List ℕ
  pub serial : List ℕ

-- The contents of registers, without their invariants.
abbrev pub contents_of : Registers → Contents
contents_of r = record {
  moment = r.clock.moment;
  limits = r.limits;
  rate = r.rate;
  control = r.control;
  clear_enabled = r.clear_enabled;
  delay = r.delay;
  latest = r.latest;
  ready = r.ready;
  cleared = r.cleared;
  flags = r.flags;
  switches = r.switches;
  user = r.user;
  serial = r.serial;
}

-- Limits of 0.
abbrev pub zero_limits : Limits
zero_limits =
    let pair : LimitPair = record { low = 0; high = 0 } in
    record { temperature = pair; one = pair; two = pair; three = pair }

-- Codes of 0.
abbrev pub zero_codes : Codes
zero_codes = record { temperature = 0; one = 0; two = 0; three = 0 }

-- No flag is set.
abbrev pub no_flags : Flags
no_flags =
    let pair : FlagPair = record { low = false; high = false } in
    record { temperature = pair; one = pair; two = pair; three = pair }

-- New registers stand at 1 January 2000, and are cleared. Bit 0 of Control 2 is 1; all else is 0.
abbrev pub new_contents : List ℕ → Contents
new_contents serial = record {
  moment = first_moment;
  limits = zero_limits;
  rate = 0;
  control = 0;
  clear_enabled = false;
  delay = 0;
  latest = zero_codes;
  ready = false;
  cleared = true;
  flags = no_flags;
  switches = 1;
  user = replicate 32 0;
  serial = serial;
}

-- Each of these changes one register, and keeps the others.

abbrev pub with_moment : Contents → Moment → Contents
with_moment c moment = record {
  moment = moment;
  limits = c.limits;
  rate = c.rate;
  control = c.control;
  clear_enabled = c.clear_enabled;
  delay = c.delay;
  latest = c.latest;
  ready = c.ready;
  cleared = c.cleared;
  flags = c.flags;
  switches = c.switches;
  user = c.user;
  serial = c.serial;
}

abbrev pub with_limits : Contents → Limits → Contents
with_limits c limits = record {
  moment = c.moment;
  limits = limits;
  rate = c.rate;
  control = c.control;
  clear_enabled = c.clear_enabled;
  delay = c.delay;
  latest = c.latest;
  ready = c.ready;
  cleared = c.cleared;
  flags = c.flags;
  switches = c.switches;
  user = c.user;
  serial = c.serial;
}

abbrev pub with_rate : Contents → ℕ → Contents
with_rate c rate = record {
  moment = c.moment;
  limits = c.limits;
  rate = rate;
  control = c.control;
  clear_enabled = c.clear_enabled;
  delay = c.delay;
  latest = c.latest;
  ready = c.ready;
  cleared = c.cleared;
  flags = c.flags;
  switches = c.switches;
  user = c.user;
  serial = c.serial;
}

abbrev pub with_control : Contents → ℕ → Bool → Contents
with_control c control clear_enabled = record {
  moment = c.moment;
  limits = c.limits;
  rate = c.rate;
  control = control;
  clear_enabled = clear_enabled;
  delay = c.delay;
  latest = c.latest;
  ready = c.ready;
  cleared = c.cleared;
  flags = c.flags;
  switches = c.switches;
  user = c.user;
  serial = c.serial;
}

abbrev pub with_delay : Contents → ℕ → Contents
with_delay c delay = record {
  moment = c.moment;
  limits = c.limits;
  rate = c.rate;
  control = c.control;
  clear_enabled = c.clear_enabled;
  delay = delay;
  latest = c.latest;
  ready = c.ready;
  cleared = c.cleared;
  flags = c.flags;
  switches = c.switches;
  user = c.user;
  serial = c.serial;
}

abbrev pub with_latest : Contents → Codes → Contents
with_latest c latest = record {
  moment = c.moment;
  limits = c.limits;
  rate = c.rate;
  control = c.control;
  clear_enabled = c.clear_enabled;
  delay = c.delay;
  latest = latest;
  ready = c.ready;
  cleared = c.cleared;
  flags = c.flags;
  switches = c.switches;
  user = c.user;
  serial = c.serial;
}

abbrev pub with_ready : Contents → Bool → Contents
with_ready c ready = record {
  moment = c.moment;
  limits = c.limits;
  rate = c.rate;
  control = c.control;
  clear_enabled = c.clear_enabled;
  delay = c.delay;
  latest = c.latest;
  ready = ready;
  cleared = c.cleared;
  flags = c.flags;
  switches = c.switches;
  user = c.user;
  serial = c.serial;
}

abbrev pub with_cleared : Contents → Bool → Contents
with_cleared c cleared = record {
  moment = c.moment;
  limits = c.limits;
  rate = c.rate;
  control = c.control;
  clear_enabled = c.clear_enabled;
  delay = c.delay;
  latest = c.latest;
  ready = c.ready;
  cleared = cleared;
  flags = c.flags;
  switches = c.switches;
  user = c.user;
  serial = c.serial;
}

abbrev pub with_flags : Contents → Flags → Contents
with_flags c flags = record {
  moment = c.moment;
  limits = c.limits;
  rate = c.rate;
  control = c.control;
  clear_enabled = c.clear_enabled;
  delay = c.delay;
  latest = c.latest;
  ready = c.ready;
  cleared = c.cleared;
  flags = flags;
  switches = c.switches;
  user = c.user;
  serial = c.serial;
}

abbrev pub with_switches : Contents → ℕ → Contents
with_switches c switches = record {
  moment = c.moment;
  limits = c.limits;
  rate = c.rate;
  control = c.control;
  clear_enabled = c.clear_enabled;
  delay = c.delay;
  latest = c.latest;
  ready = c.ready;
  cleared = c.cleared;
  flags = c.flags;
  switches = switches;
  user = c.user;
  serial = c.serial;
}

abbrev pub with_user : Contents → List ℕ → Contents
with_user c user = record {
  moment = c.moment;
  limits = c.limits;
  rate = c.rate;
  control = c.control;
  clear_enabled = c.clear_enabled;
  delay = c.delay;
  latest = c.latest;
  ready = c.ready;
  cleared = c.cleared;
  flags = c.flags;
  switches = c.switches;
  user = user;
  serial = c.serial;
}
