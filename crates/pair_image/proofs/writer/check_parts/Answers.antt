use Rattle.std.proofs.Common.{rules, ◌+◌, ◌*◌, ◌^◌, length}
use Rattle.fields.proofs.Faults.{each_made}
use Rattle.pair_image.specs.Format.{raw_of}
use Rattle.pair_image.specs.Rules.{raw_fault}
use Rattle.pair_image.proofs.writer.check_parts.Goals as goal

pub returns : goal.returns
returns c =
    let made = each_made (raw_fault (2 ^ c.args.width)) raw_of 12 (12 + 2 * length c.args.codes.now) c.args.entries.now in
    search rules
