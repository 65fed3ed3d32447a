-- What the recorder does to the registers besides writes.
use Rattle.std.specs.Prelude.{◌≡◌, ◌-◌, Bool, true, false, cond}
use Rattle.clock.specs.Ticking.{ticked}
use Rattle.bits.specs.Bits.{bit}
use Rattle.mission.specs.Channels.{channels_of}
use Rattle.mission.specs.PerChannel.{Channels, Codes, Limits}
use Rattle.mission.specs.declared.setting.Setting.{Setting}
use Rattle.registers.specs.Contents.{Contents, with_cleared, with_control, with_delay, with_flags, with_latest, with_moment, with_rate}
use Rattle.registers.specs.Flags.{raised}

-- The channels that Control 2 switches on.
abbrev pub channels_on : Contents → Channels
channels_on c = channels_of c.switches

-- Bit 4 of Control 1: the button starts a mission.
abbrev pub by_button : Contents → Bool
by_button c = bit 4 c.control

-- Bit 3 of Control 1: a full log rolls over.
abbrev pub rolls_log_over : Contents → Bool
rolls_log_over c = bit 3 c.control

-- A setting is the one that the registers hold.
pub record SetBy (c : Contents) (s : Setting) : Type 0 where
  pub rate : s.rate ≡ c.rate
  pub delay : s.delay ≡ c.delay
  pub rolls : s.roll_over ≡ rolls_log_over c
  pub channels : s.channels ≡ channels_on c
  pub limits : s.limits ≡ c.limits

-- One second passes.
abbrev pub tick_after : Contents → Contents
tick_after c = with_moment c (ticked c.moment)

-- Each channel that is on gets its code. Where temperature is off its code reads FFh, and a voltage channel that is
-- off keeps the code that it had.
abbrev pub latched : Codes → Channels → Codes → Codes
latched latest channels codes = record {
  temperature = cond channels.temperature codes.temperature 0xFF;
  one = cond channels.one codes.one latest.one;
  two = cond channels.two codes.two latest.two;
  three = cond channels.three codes.three latest.three;
}

-- The codes of a second are latched.
abbrev pub latch_after : Contents → Channels → Codes → Contents
latch_after c channels codes = with_latest c (latched c.latest channels codes)

-- The flags of a sample set are raised.
abbrev pub raise_after : Contents → Channels → Limits → Codes → Contents
raise_after c channels limits codes = with_flags c (raised c.flags channels limits codes)

-- A rollover of the start delay, which stops at 0.
abbrev pub count_down_after : Contents → Contents
count_down_after c = with_delay c (c.delay - 1)

-- An enabled clear is enabled once.
abbrev pub take_enable_after : Contents → Contents
take_enable_after c = with_control c c.control false

-- A mission starts: the record is no longer cleared.
abbrev pub start_after : Contents → Contents
start_after c = with_cleared c false

-- The record is cleared, and with it the sample rate and the start delay.
abbrev pub clear_after : Contents → Contents
clear_after c = with_cleared (with_delay (with_rate c 0) 0) true
