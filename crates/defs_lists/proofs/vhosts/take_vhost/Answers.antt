-- One more virtual host, which is none of those before it.
use Rattle.defs_lists.proofs.HostLemmas.{hosts_push, distinct_push}
use Rattle.defs_lists.proofs.vhosts.take_vhost.Goals as goal

pub returns-clause-hosts : goal.returns-clause-hosts
returns-clause-hosts c = rw (c.in_ok-add.ensures, c.in_ok-name.ensures.read) (hosts_push _ _ c.requires.hosts)

pub returns-clause-distinct : goal.returns-clause-distinct
returns-clause-distinct c =
    rw (c.in_ok-add.ensures, c.in_ok-name.ensures.read)
    (distinct_push _ _ c.requires.hosts c.requires.distinct (rw c.in_ok-name.ensures.read at c.in_ok-once.ensures.new))
