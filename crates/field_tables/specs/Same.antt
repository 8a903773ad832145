-- When two field values are one: a test by their parts (RabbitMQ's AMQP 0-9-1 Errata, "Field types").
use Rattle.std.specs.Prelude.{Bool, true, false, ◌&&◌, ◌==◌}
use Rattle.std.specs.Ordering.{int_eq}
use Rattle.std.specs.Str.{bytes_eq}
use Rattle.std.proofs.Math.Bool.{beq}
use Rattle.field_tables.specs.Fields.{Field, boolean, signed_octet, octet, signed_short, short, signed_long, long, signed_longlong, float, double, decimal, long_string, array, timestamp, table, void, byte_array, Fields, no_fields, field, Pairs, no_pairs, pair}

unfoldable mutual
  -- Two values have one kind and the same octets.
  pub same_field : Field → Field → Bool
  same_field (boolean a) (boolean b) = beq a b
  same_field (signed_octet a) (signed_octet b) = int_eq a b
  same_field (octet a) (octet b) = a == b
  same_field (signed_short a) (signed_short b) = int_eq a b
  same_field (short a) (short b) = a == b
  same_field (signed_long a) (signed_long b) = int_eq a b
  same_field (long a) (long b) = a == b
  same_field (signed_longlong a) (signed_longlong b) = int_eq a b
  same_field (float a) (float b) = bytes_eq a b
  same_field (double a) (double b) = bytes_eq a b
  same_field (decimal a) (decimal b) = bytes_eq a b
  same_field (long_string a) (long_string b) = bytes_eq a b
  same_field (array a) (array b) = same_fields a b
  same_field (timestamp a) (timestamp b) = a == b
  same_field (table a) (table b) = same_pairs a b
  same_field void void = true
  same_field (byte_array a) (byte_array b) = bytes_eq a b
  same_field _ _ = false

  pub same_fields : Fields → Fields → Bool
  same_fields no_fields no_fields = true
  same_fields (field v vs) (field w ws) = same_field v w && same_fields vs ws
  same_fields _ _ = false

  pub same_pairs : Pairs → Pairs → Bool
  same_pairs no_pairs no_pairs = true
  same_pairs (pair name v ps) (pair key w qs) = bytes_eq name key && same_field v w && same_pairs ps qs
  same_pairs _ _ = false
