-- What a record port means. Assumes nothing.
use Rattle.std.specs.Prelude.{◌-◌, length, take}
use Rattle.port.specs.declared.record.RecordPort.{RecordPort}
use Rattle.port.specs.Meaning.{Meaning}

abbrev pub record_meaning : RecordPort → Meaning
record_meaning p = record { waiting = p.waiting.now; taken = take p.used p.places.now; places_left = length p.places.now - p.used }
