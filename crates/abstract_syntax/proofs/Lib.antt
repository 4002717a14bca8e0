pub mod MapLaws
pub mod RisingLaws
