use Rattle.fed_journal.specs.SiteLaws.{site-tables}
use Rattle.fed_status.proofs.binding_line.push_binding_lines.Goals as goal

-- the arguments of the place's bindings are tables
pub push_bindings-requires : goal.push_bindings-requires
push_bindings-requires c =
    rw (c.bindings.ensures, c.in_ok-site.ensures) (site-tables c.args.journal.now c.args.place.now c.requires.fits)
