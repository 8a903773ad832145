use Rattle.std.proofs.Common.{◌+◌, arith}
use Rattle.std.proofs.lemmas.List.{length-drop}
use Rattle.field_tables.proofs.Patches.{set_counted}
use Rattle.field_tables.proofs.writing.set_count.Goals as goal

pub returns : goal.returns
returns c = set_counted c.args.start c.args.out.now.items c.to_be_bytes-octets.result _ c.to_be_bytes-octets.ensures (omega (arith, length-drop (c.args.start + 4) c.args.out.now.items)) (omega arith)
