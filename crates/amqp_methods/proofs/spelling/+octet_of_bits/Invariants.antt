use Rattle.std.proofs.Common.{length}
use Rattle.amqp_methods.proofs.spelling.+octet_of_bits.Given as goal

abbrev pub decreases-octet_of_bits : goal.decreases-octet_of_bits
decreases-octet_of_bits l = length l.bits.now
