-- The faults of a payload, as faults of its frame: AMQP 0-9-1, sections 2.3.5.1 and 2.3.5.2.
use Rattle.amqp_methods.specs.declared.fault.MethodFault.{MethodFault}
use Rattle.amqp_methods.specs.declared.fault.MethodFault.TheVariants as method
use Rattle.amqp_props.specs.declared.fault.PropsFault.{PropsFault}
use Rattle.amqp_props.specs.declared.fault.PropsFault.TheVariants as header
use Rattle.amqp_content.specs.declared.fault.ContentFault.{ContentFault}
use Rattle.amqp_content.specs.declared.fault.ContentFault.TheVariants.{Header, Method, Memory}

-- want of memory, or the fault of a method's payload
abbrev pub of_method : MethodFault → ContentFault
of_method method.Memory = Memory
of_method fault = Method fault

-- want of memory, or the fault of a content header's payload
abbrev pub of_header : PropsFault → ContentFault
of_header header.Memory = Memory
of_header fault = Header fault
