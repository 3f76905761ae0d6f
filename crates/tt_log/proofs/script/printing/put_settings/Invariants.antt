use Rattle.std.proofs.Common.{◌≡◌, ◌++◌, take}
use Rattle.std.specs.List.{flat_map}
use Rattle.tt_log.specs.Written.{setting_text}
use Rattle.tt_log.proofs.script.printing.put_settings.Given as goal

-- the settings so far were written
abbrev pub invariant-loop-setting : goal.invariant-loop-setting
invariant-loop-setting l = l.out.items ≡ l.fn.out.items ++ flat_map setting_text (take l.setting-index l.settings)
